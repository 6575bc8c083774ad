use Rattle.std.proofs.Common.{◌≡◌, ◌++◌, map, take}
use Rattle.shape_parts.proofs.layers.push_met.Given as goal

abbrev pub invariant-loop-column : goal.invariant-loop-column
invariant-loop-column l = l.outer ≡ l.initial.outer ++ map (λ j. (l.row, j)) (take l.column-index l.column-items)
