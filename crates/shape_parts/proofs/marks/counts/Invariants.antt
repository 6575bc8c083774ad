use Rattle.std.proofs.Common.{◌≡◌, ◌+◌, false, map, get_or}
use Rattle.std.specs.List.{range_with_len}
use Rattle.basic_kinds.specs.Sorts.{how_many_below}
use Rattle.shape_parts.proofs.marks.counts.Given as goal

abbrev pub invariant-loop-mark : goal.invariant-loop-mark
invariant-loop-mark l = record {
  count : l.count ≡ how_many_below l.mark-index (λ j. get_or l.marks j false);
  counts : l.counts.items ≡ map (λ i. how_many_below i (λ j. get_or l.marks j false)) (range_with_len 0 (l.mark-index + 1));
}
