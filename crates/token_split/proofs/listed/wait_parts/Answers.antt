use Rattle.std.proofs.Common.{◌++◌, ◌∷◌, [], map, refl, ap, ◌∙◌}
use Rattle.token_split.specs.TokenChart as web
use Rattle.token_split.specs.Mirror.TokenTables.{name_of}
use Rattle.token_split.specs.declared.paths.Part.TheVariants as part
use Rattle.token_split.proofs.TokenSteps.{two_more}
use Rattle.token_split.proofs.listed.wait_parts.Goals as goal

pub loop-wait-preserved : goal.loop-wait-preserved
loop-wait-preserved c =
    let i = c.loop-wait.wait in
    ap (map name_of) (c.in_ok-push-2.ensures.items ∙ ap (λ xs. xs ++ part.Entry i ∷ []) c.in_ok-push.ensures.items)
    ∙ two_more name_of (λ w. web.Returns w ∷ web.Entry w ∷ []) c.loop-wait.parts.items (part.Returns i) (part.Entry i) i c.loop-wait.invariant refl
