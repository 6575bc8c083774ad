use Rattle.std.proofs.Common.{ℕ, ◌<◌}
use Rattle.net_core.specs.Wiring.{IsOnce}
use Rattle.net_core.proofs.net.closed.Given as goal

abbrev pub invariant-loop-wire : goal.invariant-loop-wire
invariant-loop-wire l = (w : ℕ) → w < l.wire → IsOnce l.net w
