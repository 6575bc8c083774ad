use Rattle.std.proofs.Common.{◌≡◌, ◌+◌, map, drop}
use Rattle.basic_kinds.specs.Sorts.{Sort}
use Rattle.basic_kinds.specs.Sums.{two_way_sum, total_of}
use Rattle.count_sum.specs.Counts.{of_sort}
use Rattle.count_sum.specs.Mirror.Parts.{counted_of}
use Rattle.count_sum.proofs.sums.two_way_counts.Given as goal

abbrev pub invariant-loop-part : goal.invariant-loop-part
invariant-loop-part l = (t : Sort) → of_sort l.counts t + total_of two_way_sum (map counted_of (drop l.part-index l.parts)) t ≡ total_of two_way_sum (map counted_of l.parts) t
