use Rattle.std.proofs.Common.{ℕ, ◌<◌, get_or}
use Rattle.substitute.specs.Refusals.{IsAround}
use Rattle.substitute.proofs.whole.has_around.Given as goal

abbrev pub invariant-loop-wire : goal.invariant-loop-wire
invariant-loop-wire l = (p : ℕ) → p < l.wire-index → IsAround l.net l.node (get_or l.wires p 0) → ⊥
