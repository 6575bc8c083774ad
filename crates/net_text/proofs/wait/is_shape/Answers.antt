use Rattle.std.proofs.Common.{sym, ◌∙◌}
use Rattle.net_text.proofs.Crossings.{shape_by_columns}
use Rattle.net_text.proofs.wait.is_shape.Goals as goal

pub returns-then-by_rows : goal.returns-then-by_rows
returns-then-by_rows c =
    shape_by_columns c.args.rows c.args.cols c.args.cross.now c.in_ok-by_rows.by_rows c.in_ok-by_cols.by_cols c.if-by_rows.true
    (sym c.is_placed.ensures ∙ c.if-not-is_placed.false) c.in_ok-by_rows.ensures c.in_ok-by_cols.ensures
