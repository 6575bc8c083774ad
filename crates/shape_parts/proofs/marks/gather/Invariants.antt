use Rattle.std.proofs.Common.{◌≡◌, map, take, slice_index}
use Rattle.shape_parts.proofs.marks.gather.Given as goal

abbrev pub invariant-loop-number : goal.invariant-loop-number
invariant-loop-number l = l.found.items ≡ map (slice_index l.table) (take l.number-index l.numbers)
