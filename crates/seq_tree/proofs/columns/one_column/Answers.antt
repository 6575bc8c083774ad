use Rattle.std.proofs.Common.{ℕ, List, [], ◌∷◌, ◌++◌, sym, ap, ◌∙◌, arith}
use Rattle.std.proofs.lemmas.List.FromFn.{map-range_with_len_more}
use Rattle.seq_tree.proofs.columns.one_column.Goals as goal

pub loop-row-preserved : goal.loop-row-preserved
loop-row-preserved c =
    c.in_ok-push.ensures.items ∙ ap (λ (xs : List (ℕ × ℕ)). xs ++ (c.loop-row.row, 0) ∷ []) c.loop-row.invariant
    ∙ sym (map-range_with_len_more (λ (i : ℕ). (i, 0)) 0 c.loop-row.row c.loop-row.row (omega arith))
