use Rattle.std.proofs.Common.{◌≡◌, ℕ, take}
use Rattle.cmd_machine.specs.Mirror.Walkers.{users_from}
use Rattle.cmd_machine.proofs.Noting.{rows_of}
use Rattle.cmd_machine.proofs.users.users_by_symbol.Given as goal

-- the processes so far stand in the rows of their symbols
abbrev pub invariant-loop-number : goal.invariant-loop-number
invariant-loop-number l = (a : ℕ) → rows_of l.users.items a ≡ users_from 0 (take l.number l.procs) a
