use Rattle.std.proofs.Common.{◌≡◌, ◌++◌, drop}
use Rattle.basic_kinds.specs.ShapeParts.{first_rows}
use Rattle.shape_parts.proofs.layers.first_rows.Given as goal

abbrev pub invariant-loop-row : goal.invariant-loop-row
invariant-loop-row l = l.found ++ first_rows l.half (drop l.row-index l.cross) ≡ first_rows l.half l.cross
