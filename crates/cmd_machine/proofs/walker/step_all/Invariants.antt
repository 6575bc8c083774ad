use Rattle.std.proofs.Common.{◌≡◌, ℕ, List, drop}
use Rattle.cmd_tree.specs.declared.tree.Proc.{Proc}
use Rattle.cmd_machine.specs.Mirror.Walkers.{users_from, AllGoOn, StandEach, StandBut}
use Rattle.cmd_machine.proofs.walker.step_all.Given as goal

-- those that are left have not gone on
abbrev pub invariant-loop-user : goal.invariant-loop-user
invariant-loop-user l = (ps : List Proc) (t : List ℕ) → StandEach ps l.fn.positions t
    → l.users ≡ users_from 0 ps l.symbol.0 → AllGoOn ps t l.symbol.0 l.users
    → StandBut ps l.positions t l.symbol.0 (drop l.user-index l.users)
