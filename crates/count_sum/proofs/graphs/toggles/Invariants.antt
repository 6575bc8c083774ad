use Rattle.std.proofs.Common.{◌≡◌, map}
use Rattle.std.specs.List.{range_with_len}
use Rattle.basic_kinds.specs.Sorts.{Toggles}
use Rattle.basic_kinds.specs.Sums.{One}
use Rattle.count_sum.specs.Mirror.Parts.{counted_of}
use Rattle.count_sum.proofs.graphs.toggles.Given as goal

abbrev pub invariant-loop : goal.invariant-loop
invariant-loop l = map counted_of l.ring.items ≡ map (λ i. One Toggles) (range_with_len 0 l.counter)
