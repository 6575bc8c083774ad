use Rattle.std.proofs.Common.{◌≡◌, ℕ, ◌+◌, ◌-◌, map, vec_len}
use Rattle.cmd_machine.specs.Mirror.Walkers.{row_at}
use Rattle.cmd_machine.proofs.users.grow.Given as goal

-- the new rows are empty
abbrev pub invariant-loop-alloc : goal.invariant-loop-alloc
invariant-loop-alloc l = (a : ℕ) → row_at (map (λ row. row.items) l.users.items) a
    ≡ row_at (map (λ row. row.items) l.initial.users.items) a

abbrev pub decreases-loop-alloc : goal.decreases-loop-alloc
decreases-loop-alloc l = l.index + 1 - vec_len l.users
