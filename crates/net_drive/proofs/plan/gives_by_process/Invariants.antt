use Rattle.std.proofs.Common.{◌≡◌, ℕ, ◌<◌, List, Some}
use Rattle.std.specs.Prelude.{slice_get}
use Rattle.cmd_tree.specs.declared.tree.Proc.{Proc}
use Rattle.place_graph.specs.Points.{OneOf}
use Rattle.cmd_machine.specs.Mirror.Walkers.{users_from}
use Rattle.cmd_machine.proofs.Noting.{rows_of}
use Rattle.net_drive.specs.Drawn.{give_of}
use Rattle.net_drive.proofs.plan.gives_by_process.Given as goal

abbrev pub invariant-loop-number : goal.invariant-loop-number
invariant-loop-number l = (ps : List Proc) → ((a : ℕ) → rows_of l.users a ≡ users_from 0 ps a)
    → (i b u : ℕ) → i < l.number → slice_get l.events i ≡ Some (give_of b) → OneOf (users_from 0 ps b) u → OneOf (rows_of l.gives.items u) i
