use Rattle.std.proofs.Common.{◌≡◌, ◌+◌, ◌≤◌, map, drop}
use Rattle.basic_kinds.specs.Sorts.{Sort}
use Rattle.basic_kinds.specs.Sums.{wide_sum, total_of}
use Rattle.count_sum.specs.Counts.{of_sort, all_sorts}
use Rattle.count_sum.specs.Mirror.Parts.{counted_of}
use Rattle.count_sum.proofs.sums.wide_counts.Given as goal

abbrev pub invariant-loop-part : goal.invariant-loop-part
invariant-loop-part l = record {
  each : (t : Sort) → of_sort l.counts t + total_of wide_sum (map counted_of (drop l.part-index l.parts)) t ≡ total_of wide_sum (map counted_of l.parts) t;
  few : all_sorts (of_sort l.counts) ≤ l.part-index;
}
