-- What a specification says of a node: the directions of its ports, and its traces.
use Rattle.std.specs.Prelude.{ℕ, Bool, true, false, nat_eq, if◌then◌else◌, List, [], ◌∷◌, ◌++◌, map, length, replicate, ⊤}
use Rattle.std.specs.List.{range_with_len}
use Rattle.cmd_tree.specs.declared.tree.Mark.{Mark}
use Rattle.cmd_tree.specs.Limits.{marks_of_all}
use Rattle.cmd_tree.specs.Marks.{is_output}
use Rattle.cmd_tree.specs.Meaning.{Trace}
use Rattle.basic_kinds.specs.Kinds.{inputs_of, outputs_of, IsWellFormed}
use Rattle.basic_kinds.specs.KindTraces.{KindTrace}
use Rattle.net_core.specs.declared.spec.NodeSpec.{NodeSpec}
use Rattle.net_core.specs.declared.spec.NodeSpec.TheVariants.{Kind, Cmd}

-- whether the first mark of the symbol x is an output
abbrev pub gives_symbol : List Mark → ℕ → Bool
gives_symbol [] x = false
gives_symbol (m ∷ ms) x = if nat_eq m.sym.0 x then is_output m.dir else gives_symbol ms x

-- n inputs and then m outputs
abbrev pub sides : ℕ → ℕ → List Bool
sides n m = replicate n false ++ replicate m true

-- which ports are outputs, in order. The ports of a kind are its inputs and then its outputs, those of a command its symbols
abbrev pub outs_of : NodeSpec → List Bool
outs_of (Kind k) = sides (inputs_of k) (outputs_of k)
outs_of (Cmd c) = map (gives_symbol (marks_of_all c.procs)) (range_with_len 0 (length c.names))

-- the traces of a specification, as lists of its ports
unfoldable pub May : NodeSpec → List ℕ → Type 0
May (Kind k) t = KindTrace k t
May (Cmd c) t = Trace c.procs t

-- the kind is well formed, where it is a kind
abbrev pub IsFormed : NodeSpec → Type 0
IsFormed (Kind k) = IsWellFormed k
IsFormed (Cmd c) = ⊤

abbrev pub is_kind : NodeSpec → Bool
is_kind (Kind k) = true
is_kind (Cmd c) = false
