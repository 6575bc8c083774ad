use Rattle.std.proofs.Common.{◌++◌, ◌∷◌, [], add-one, ◌∙◌, sym, ap}
use Rattle.cmd_rename.specs.Symbols.{counted}
use Rattle.cmd_expand.proofs.command.first_numbers.Goals as goal

pub loop-index-preserved : goal.loop-index-preserved
loop-index-preserved c = c.in_ok-push.ensures.items ∙ ap (λ u. u ++ c.loop-index.index ∷ []) c.loop-index.invariant ∙ ap counted (sym (add-one c.loop-index.index))
