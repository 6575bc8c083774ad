use Rattle.std.proofs.Common.{◌+◌, ◌∷◌, [], ◌++◌, ℕ, List, ap, ◌∙◌}
use Rattle.net_laws.proofs.Rows.{range_both}
use Rattle.net_laws.proofs.side_by_side.numbers.Goals as goal

pub loop-count-preserved : goal.loop-count-preserved
loop-count-preserved c =
    c.in_ok-push.ensures.items ∙ ap (λ (l : List ℕ). l ++ (c.args.from + c.loop-count.count) ∷ []) c.loop-count.invariant
    ∙ range_both c.args.from c.loop-count.count 1
