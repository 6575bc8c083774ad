use Rattle.std.proofs.Common.{◌≡◌, map, take, get_or}
use Rattle.net_core.proofs.renumber.moved_wires.Given as goal

abbrev pub invariant-loop-wire : goal.invariant-loop-wire
invariant-loop-wire l = l.copies.items ≡ map (λ w. get_or l.table w 0) (take l.wire-index l.wires)
