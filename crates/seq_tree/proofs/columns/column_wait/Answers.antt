use Rattle.std.proofs.Common.{sym, subst, ◌∙◌}
use Rattle.basic_kinds.specs.Shapes.{IsShape}
use Rattle.seq_tree.proofs.ColumnWaits.{column_whole, wait_made}
use Rattle.seq_tree.proofs.columns.column_wait.Goals as goal

pub invariant_of-result : goal.invariant_of-result
invariant_of-result c = record {
  whole = subst (IsShape c.args.rows 1) (sym (c.from_vec-cross.ensures ∙ c.in_ok-one_column.ensures)) (column_whole c.args.rows c.requires);
}

pub returns : goal.returns
returns c = wait_made c.args.rows _ c.requires (c.from_vec-cross.ensures ∙ c.in_ok-one_column.ensures) _
