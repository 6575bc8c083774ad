use Rattle.std.proofs.Common.{◌++◌, ◌∷◌, [], map, refl, ap, ◌∙◌}
use Rattle.plain_split.proofs.JoinedSteps.{three_more}
use Rattle.token_split.specs.TokenChart as web
use Rattle.token_split.specs.Mirror.TokenTables.{name_of}
use Rattle.token_split.specs.declared.paths.Part.TheVariants as part
use Rattle.token_split.proofs.listed.act_parts.Goals as goal

pub loop-act-preserved : goal.loop-act-preserved
loop-act-preserved c =
    let i = c.loop-act.act in
    ap (map name_of) (c.in_ok-push-3.ensures.items ∙ ap (λ xs. xs ++ part.Spread i ∷ []) (c.in_ok-push-2.ensures.items ∙ ap (λ xs. xs ++ part.Gate i ∷ []) c.in_ok-push.ensures.items))
    ∙ three_more name_of (λ n. web.Calls n ∷ web.Gate n ∷ web.Spread n ∷ []) c.loop-act.parts.items (part.Calls i) (part.Gate i) (part.Spread i) i c.loop-act.invariant refl
