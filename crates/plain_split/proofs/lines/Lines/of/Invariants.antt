use Rattle.std.proofs.Common.{◌≡◌, take}
use Rattle.plain_split.proofs.lines.Lines.of.Given as goal

abbrev pub invariant-loop-wire : goal.invariant-loop-wire
invariant-loop-wire l = l.set.keys ≡ take l.wire-index l.wires
