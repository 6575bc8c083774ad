use Rattle.std.proofs.Common.{◌≡◌, ℕ, ◌+◌, Bool, false, [], ◌∷◌, ◌++◌, map, get_or, sym, ap, ◌∙◌, arith}
use Rattle.std.specs.Prelude.{if◌then◌else◌}
use Rattle.std.specs.List.{range_with_len}
use Rattle.std.proofs.lemmas.List.FromFn.{map-range_with_len_more}
use Rattle.basic_kinds.specs.Sorts.{how_many_below}
use Rattle.shape_parts.proofs.Filled.{count_more, count_low}
use Rattle.shape_parts.proofs.marks.counts.Goals as goal
use Rattle.shape_parts.proofs.marks.counts.Goals.{then-mark, else-mark}

pub overflow_add-count : goal.overflow_add-count
overflow_add-count c = omega (arith, c.loop-mark.invariant.count, count_low (λ j. get_or c.args.marks.now j false) c.loop-mark.mark-index)

pub loop-mark-preserved : goal.loop-mark-preserved
loop-mark-preserved c =
    let i : ℕ = c.loop-mark.mark-index in
    let f = λ (j : ℕ). get_or c.args.marks.now j false in
    let e : c.if-mark.count ≡ how_many_below (i + 1) f =
    elim c.if-mark.branch [
      | then-mark w ↦ w.count-is ∙ ap (λ (n : ℕ). n + 1) c.loop-mark.invariant.count ∙ sym (count_more f i ∙ ap (λ (b : Bool). if b then how_many_below i f + 1 else how_many_below i f) w.if-mark.true)
      | else-mark w ↦ w.count-is ∙ c.loop-mark.invariant.count ∙ sym (count_more f i ∙ ap (λ (b : Bool). if b then how_many_below i f + 1 else how_many_below i f) w.if-mark.false)
    ] in
    record {
      count = e;
      counts = c.in_ok-push.ensures.items ∙ ap (λ ns. ns ++ c.if-mark.count ∷ []) c.loop-mark.invariant.counts
          ∙ ap (λ n. map (λ k. how_many_below k f) (range_with_len 0 (i + 1)) ++ n ∷ []) e ∙ sym (map-range_with_len_more (λ k. how_many_below k f) 0 (i + 1) (i + 1) (omega arith));
    }
