use Rattle.std.proofs.Common.{◌≡◌, map}
use Rattle.std.specs.List.{range_with_len}
use Rattle.count_sum.proofs.sequencers.one_column.Given as goal

abbrev pub invariant-loop-row : goal.invariant-loop-row
invariant-loop-row l = l.cross.items ≡ map (λ i. (i, 0)) (range_with_len 0 l.row)
