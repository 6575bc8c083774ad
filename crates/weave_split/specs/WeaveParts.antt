-- What the network of a weave consists of.
use Rattle.std.specs.Prelude.{◌≡◌, ℕ, ◌≤◌, not, if◌then◌else◌, List, [], ◌∷◌, length, ⊤}
use Rattle.std.specs.List.{AllByRecursion}
use Rattle.cmd_tree.specs.declared.tree.Proc.{Proc}
use Rattle.cmd_tree.specs.declared.command.Command.{Command}
use Rattle.cmd_tree.specs.declared.limits.TheConstants.{MAX_PROCESSES}
use Rattle.basic_kinds.specs.Sorts.{Sort, is_of, how_many}
use Rattle.basic_kinds.specs.Sums.{wide_sum, total_of}
use Rattle.di_grammar.specs.Admitted.{Admitted}
use Rattle.place_graph.specs.Sums.{processes}
use Rattle.net_core.specs.declared.spec.NodeSpec.{NodeSpec}
use Rattle.net_core.specs.declared.spec.NodeSpec.TheVariants.{Kind, Cmd}
use Rattle.net_core.specs.Specs.{is_kind}
use Rattle.net_core.specs.Wiring.{Node}

-- the admitted command is one process
pub record IsProcess (d : Command) : Type 0 where
  pub process : Proc
  pub alone : d.procs ≡ process ∷ []
  pub admitted : Admitted d.procs

-- a kind, or an admitted command of one process
abbrev pub IsKindOrProcess : NodeSpec → Type 0
IsKindOrProcess (Kind k) = ⊤
IsKindOrProcess (Cmd d) = IsProcess d

-- Kinds, and processes: at most as many as a command may have.
pub record AreParts (xs : List Node) : Type 0 where
  pub each : AllByRecursion (λ x. IsKindOrProcess x.spec) xs
  pub few : how_many (λ x. not (is_kind x.spec)) xs ≤ MAX_PROCESSES

-- how many components of a sort stand for it: itself, where it is of this sort, and the network of a process
abbrev pub part_sum : Sort → NodeSpec → ℕ
part_sum s (Kind k) = if is_of s k then 1 else 0
part_sum s (Cmd d) = total_of wide_sum (processes d.procs (length d.names)) s
