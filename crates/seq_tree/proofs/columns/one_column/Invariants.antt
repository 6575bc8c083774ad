use Rattle.std.proofs.Common.{◌≡◌, map}
use Rattle.std.specs.List.{range_with_len}
use Rattle.seq_tree.proofs.columns.one_column.Given as goal

abbrev pub invariant-loop-row : goal.invariant-loop-row
invariant-loop-row l = l.cross.items ≡ map (λ i. (i, 0)) (range_with_len 0 l.row)
