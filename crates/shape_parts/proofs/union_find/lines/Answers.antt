use Rattle.std.proofs.Common.{[], ◌∷◌, ◌++◌, sym, ap, ◌∙◌}
use Rattle.shape_parts.proofs.Links.{range_more}
use Rattle.shape_parts.proofs.union_find.lines.Goals as goal

pub loop-line-preserved : goal.loop-line-preserved
loop-line-preserved c = c.in_ok-push.ensures.items ∙ ap (λ vs. vs ++ c.loop-line.line ∷ []) c.loop-line.invariant ∙ sym (range_more c.loop-line.line)
