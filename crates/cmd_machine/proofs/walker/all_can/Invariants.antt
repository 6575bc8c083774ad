use Rattle.std.proofs.Common.{ℕ, List, drop}
use Rattle.cmd_tree.specs.declared.tree.Proc.{Proc}
use Rattle.cmd_machine.specs.Mirror.Walkers.{AllGoOn, StandEach}
use Rattle.cmd_machine.proofs.walker.all_can.Given as goal

-- all go on if those do that are left
abbrev pub invariant-loop-user : goal.invariant-loop-user
invariant-loop-user l = (ps : List Proc) (t : List ℕ) → StandEach ps l.positions t
    → AllGoOn ps t l.symbol.0 (drop l.user-index l.users) → AllGoOn ps t l.symbol.0 l.users
