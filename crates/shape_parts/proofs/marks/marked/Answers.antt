use Rattle.std.proofs.Common.{ℕ, Bool, false, [], ◌∷◌, ◌++◌, filter, get_or, sym, ap, ◌∙◌, append-nil}
use Rattle.std.specs.Prelude.{if◌then◌else◌}
use Rattle.std.specs.List.{range_with_len}
use Rattle.shape_parts.proofs.Filled.{filter_more}
use Rattle.shape_parts.proofs.marks.marked.Goals as goal
use Rattle.shape_parts.proofs.marks.marked.Goals.{then-mark+in_ok-push, else-mark}

pub loop-number-preserved : goal.loop-number-preserved
loop-number-preserved c =
    let i : ℕ = c.loop-number.number in
    let f = λ (j : ℕ). get_or c.args.marks.now j false in
    let by = λ (b : Bool). filter f (range_with_len 0 i) ++ (if b then i ∷ [] else []) in
    elim c.if-mark.branch [
      | then-mark+in_ok-push w ↦ ap (λ v. v.items) w.numbers-is ∙ w.in_ok-push.ensures.items ∙ ap (λ ns. ns ++ i ∷ []) c.loop-number.invariant ∙ sym (filter_more f i ∙ ap by w.if-mark.true)
      | else-mark w ↦ ap (λ v. v.items) w.numbers-is ∙ c.loop-number.invariant ∙ sym (filter_more f i ∙ ap by w.if-mark.false ∙ append-nil (filter f (range_with_len 0 i)))
    ]
