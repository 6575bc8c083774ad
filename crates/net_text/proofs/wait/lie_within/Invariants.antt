use Rattle.std.proofs.Common.{◌≡◌, drop}
use Rattle.std.specs.List.{list_all}
use Rattle.basic_kinds.specs.Shapes.{is_within}
use Rattle.net_text.proofs.wait.lie_within.Given as goal

-- those so far lie within
abbrev pub invariant-loop-row : goal.invariant-loop-row
invariant-loop-row l = list_all (is_within l.rows l.cols) (drop l.row-index l.cross) ≡ list_all (is_within l.rows l.cols) l.cross
