use Rattle.std.proofs.Common.{◌++◌, ◌∷◌, [], sym, ap, ◌∙◌}
use Rattle.plain_split.proofs.RoundsSteps.{range_more}
use Rattle.plain_split.proofs.rounds_net.outer_wires.Goals as goal

pub loop-symbol-preserved : goal.loop-symbol-preserved
loop-symbol-preserved c = c.in_ok-push.ensures.items ∙ ap (λ xs. xs ++ c.loop-symbol.symbol ∷ []) c.loop-symbol.invariant ∙ sym (range_more c.loop-symbol.symbol)
