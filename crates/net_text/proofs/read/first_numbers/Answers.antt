use Rattle.std.proofs.Common.{◌∷◌, ◌++◌, [], List, ℕ, sym, ap, ◌∙◌}
use Rattle.net_text.proofs.Counted.{range_more}
use Rattle.net_text.proofs.read.first_numbers.Goals as goal

pub loop-number-preserved : goal.loop-number-preserved
loop-number-preserved c =
    let i = c.loop-number.number in
    c.in_ok-push.ensures.items ∙ ap (λ (ns : List ℕ). ns ++ i ∷ []) c.loop-number.invariant ∙ sym (range_more i)
