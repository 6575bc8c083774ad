use Rattle.std.proofs.Common.{◌≤◌, ◌-◌, vec_len}
use Rattle.di_io.proofs.host.read_front.Given as goal

-- no more than asked for
abbrev pub invariant-loop-piece : goal.invariant-loop-piece
invariant-loop-piece g l = vec_len l.bytes ≤ l.cap

abbrev pub decreases-loop-piece : goal.decreases-loop-piece
decreases-loop-piece g l = l.cap - vec_len l.bytes
