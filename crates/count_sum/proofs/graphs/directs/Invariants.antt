use Rattle.std.proofs.Common.{◌≡◌, ◌&&◌, map, filter, get_or}
use Rattle.std.specs.Prelude.{nat_eq}
use Rattle.std.specs.List.{range_with_len}
use Rattle.basic_kinds.specs.Sorts.{Wires}
use Rattle.basic_kinds.specs.Sums.{One}
use Rattle.count_sum.specs.Mirror.Parts.{counted_of}
use Rattle.count_sum.proofs.graphs.directs.Given as goal

abbrev pub invariant-loop-symbol : goal.invariant-loop-symbol
invariant-loop-symbol l = map counted_of l.wires.items ≡ map (λ a. One Wires) (filter (λ a. nat_eq (get_or l.givers a 0) 1 && nat_eq (get_or l.straights a 0) 1) (range_with_len 0 l.symbol))
