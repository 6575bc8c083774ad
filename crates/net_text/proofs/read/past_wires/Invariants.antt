use Rattle.std.proofs.Common.{◌≡◌, drop}
use Rattle.net_text.specs.NetFault.{with_wires}
use Rattle.net_text.proofs.read.past_wires.Given as goal

-- the rest is still to come
abbrev pub invariant-loop-wire : goal.invariant-loop-wire
invariant-loop-wire l = with_wires l.past (drop l.wire-index l.ends) ≡ with_wires l.known l.ends
