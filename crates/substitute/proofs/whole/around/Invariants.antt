use Rattle.std.proofs.Common.{ℕ, ◌<◌}
use Rattle.substitute.specs.Refusals.{IsAround}
use Rattle.substitute.proofs.whole.around.Given as goal

abbrev pub invariant-loop-wire : goal.invariant-loop-wire
invariant-loop-wire l = (v : ℕ) → v < l.wire → IsAround l.net l.node v → ⊥
