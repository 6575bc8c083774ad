use Rattle.std.proofs.Common.{◌≡◌, map, take}
use Rattle.basic_kinds.specs.Sums.{Wide}
use Rattle.count_sum.specs.Mirror.Parts.{sort_of, counted_of}
use Rattle.count_sum.proofs.graphs.wide.Given as goal

abbrev pub invariant-loop-width : goal.invariant-loop-width
invariant-loop-width l = map counted_of l.groups.items ≡ map (Wide (sort_of l.sort)) (take l.width-index l.widths)
