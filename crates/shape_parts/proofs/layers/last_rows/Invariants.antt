use Rattle.std.proofs.Common.{◌≡◌, ◌++◌, drop}
use Rattle.basic_kinds.specs.ShapeParts.{last_rows}
use Rattle.shape_parts.proofs.layers.last_rows.Given as goal

abbrev pub invariant-loop-row : goal.invariant-loop-row
invariant-loop-row l = l.found ++ last_rows l.half (drop l.row-index l.cross) ≡ last_rows l.half l.cross
