-- The networks that take the places of the processes of a weave, and the whole before it is put in order.
use Rattle.std.specs.Prelude.{◌≡◌, ℕ, ◌<◌, ◌^◌, List, [], ◌∷◌, length, ⊤, Option, None, Some}
use Rattle.cmd_tree.specs.declared.command.Command.{Command}
use Rattle.basic_kinds.specs.Sorts.{Sort}
use Rattle.basic_kinds.specs.Sums.{Counted, wide_sum}
use Rattle.place_graph.specs.Sums.{command_sum}
use Rattle.net_core.specs.declared.spec.NodeSpec.{NodeSpec}
use Rattle.net_core.specs.declared.spec.NodeSpec.TheVariants.{Kind, Cmd}
use Rattle.net_core.specs.Wiring.{Node, Circuit}
use Rattle.net_core.specs.Renumbering.{sum_of_parts}
use Rattle.net_laws.specs.Implementing.{Implements}
use Rattle.net_sums.specs.NodeSums.{IsSum, node_sum}
use Rattle.weave_split.specs.WeaveParts.{part_sum}
use Rattle.count_sum.specs.Counts.{sum_in}
use Rattle.count_sum.specs.declared.counts.Basis.{Basis}
use Rattle.di_compile.specs.Compiling.{number_of, IsInBasis}

-- a network for the process, of the components that its sums say
pub record IsProcessNet (d : Command) (net : Circuit) : Type 0 where
  pub right : Implements net (Cmd d)
  pub few : net.wires < 2 ^ 20
  pub numbers : (s : Sort) → number_of net s ≡ part_sum s (Cmd d)
  pub sums : (sum : Counted → Sort → ℕ) → IsSum sum → (s : Sort) → sum_of_parts (node_sum sum s) net ≡ node_sum sum s (Cmd d)

-- nothing for a kind, and a network for a process
abbrev pub IsInPlace : NodeSpec → Option Circuit → Type 0
IsInPlace (Kind k) None = ⊤
IsInPlace (Kind k) (Some net) = ⊥
IsInPlace (Cmd d) None = ⊥
IsInPlace (Cmd d) (Some net) = IsProcessNet d net

-- one for each node
abbrev pub AreInPlaces : List Node → List (Option Circuit) → Type 0
AreInPlaces [] [] = ⊤
AreInPlaces [] (p ∷ ps) = ⊥
AreInPlaces (x ∷ xs) [] = ⊥
AreInPlaces (x ∷ xs) (p ∷ ps) = IsInPlace x.spec p × AreInPlaces xs ps

-- the network of the command in the basis wide, by numbers of components and by sums
pub record IsWideNet (command : Command) (net : Circuit) : Type 0 where
  pub right : Implements net (Cmd command)
  pub few : net.wires < 2 ^ 31
  pub numbers : (s : Sort) → number_of net s ≡ command_sum wide_sum command.procs (length command.names) s
  pub sums : (sum : Counted → Sort → ℕ) → IsSum sum → (s : Sort)
      → sum_of_parts (node_sum sum s) net ≡ command_sum sum command.procs (length command.names) s

-- the network of the command in the basis
pub record IsWholeNet (basis : Basis) (command : Command) (net : Circuit) : Type 0 where
  pub right : Implements net (Cmd command)
  pub in_basis : IsInBasis basis net
  pub few : net.wires < 2 ^ 31
  pub sums : (s : Sort) → number_of net s ≡ command_sum (sum_in basis) command.procs (length command.names) s
