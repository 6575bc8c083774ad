use Rattle.std.proofs.Common.{ℕ, List, [], ◌∷◌, ◌++◌, replicate, ap, ◌∙◌}
use Rattle.std.proofs.lemmas.List.{replicate_more}
use Rattle.shape_parts.proofs.by_key.none.Goals as goal

pub loop-preserved : goal.loop-preserved
loop-preserved c =
    let none : List ℕ = [] in
    c.in_ok-push.ensures.items ∙ ap (λ bs. bs ++ c.new.result ∷ []) c.loop.invariant ∙ ap (λ (b : List ℕ). replicate c.loop.counter none ++ b ∷ []) c.new.ensures
    ∙ replicate_more c.loop.counter none
