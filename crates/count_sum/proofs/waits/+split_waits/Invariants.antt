use Rattle.std.proofs.Common.{◌≡◌, ◌+◌, ◌*◌, drop}
use Rattle.basic_kinds.specs.Sorts.{Sort}
use Rattle.count_sum.specs.Counts.{of_sort}
use Rattle.count_sum.specs.Mirror.Waits.{of_parts}
use Rattle.count_sum.proofs.waits.+split_waits.Given as goal

-- From a DW to its parts, to a layer, and to what this is made of: lines fall in a layer.
abbrev pub decreases-add_wait : goal.decreases-add_wait
decreases-add_wait l = 4 * (l.rows + l.cols) + 2

abbrev pub decreases-add_part : goal.decreases-add_part
decreases-add_part l = 4 * (l.rows + l.cols) + 1

abbrev pub decreases-add_layer : goal.decreases-add_layer
decreases-add_layer l = 4 * (l.rows + l.cols)

abbrev pub decreases-add_group : goal.decreases-add_group
decreases-add_group l = 4 * (l.rows + l.cols) + 3

abbrev pub invariant-add_wait-loop-part : goal.invariant-add_wait-loop-part
invariant-add_wait-loop-part l = (t : Sort) → of_sort l.counts t + of_parts (drop l.part-index l.part-items) t ≡ of_sort l.initial.counts t + of_parts l.part-items t
