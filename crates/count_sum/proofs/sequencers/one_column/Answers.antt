use Rattle.std.proofs.Common.{ℕ, ◌∙◌}
use Rattle.count_sum.proofs.ListSteps.{row_more}
use Rattle.std.proofs.Common.{refl}
use Rattle.count_sum.proofs.sequencers.one_column.Goals as goal

pub loop-row-preserved : goal.loop-row-preserved
loop-row-preserved c = c.in_ok-push.ensures.items ∙ row_more (λ (i : ℕ). (i, 0)) c.loop-row.cross.items (c.loop-row.row, 0) c.loop-row.row c.loop-row.invariant refl
