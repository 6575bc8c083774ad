use Rattle.std.proofs.Common.{◌≡◌, ℕ, ◌+◌, Bool, true, false, [], ◌∷◌, ◌++◌, map, slice_index, sym, ap, ◌∙◌, arith}
use Rattle.std.specs.Prelude.{if◌then◌else◌}
use Rattle.std.specs.List.{range_with_len}
use Rattle.std.proofs.lemmas.List.FromFn.{map-range_with_len_more}
use Rattle.shape_parts.specs.Mirror.Cuts.{line_key}
use Rattle.shape_parts.proofs.keys.line_keys.Goals as goal
use Rattle.shape_parts.proofs.keys.line_keys.Goals.{then-met-line+in_ok-push, else-met-line+in_ok-push-2}

pub loop-line-preserved : goal.loop-line-preserved
loop-line-preserved c =
    let i : ℕ = c.loop-line.line in
    let key = line_key c.args.labels.now c.args.first c.args.met.now c.args.numbers.now c.args.many in
    let more : map key (range_with_len 0 (i + 1)) ≡ map key (range_with_len 0 i) ++ key i ∷ [] = map-range_with_len_more key 0 i i (omega arith) in
    let by = λ (b : Bool). if b then slice_index c.args.numbers.now (slice_index c.args.labels.now (c.args.first + i)) else c.args.many in
    elim c.if-met-line.branch [
      | then-met-line+in_ok-push w ↦
          ap (λ v. v.items) w.keys-is ∙ w.in_ok-push.ensures.items ∙ ap (λ ks. ks ++ by true ∷ []) c.loop-line.invariant ∙ ap (λ k. map key (range_with_len 0 i) ++ k ∷ []) (sym (ap by w.if-met-line.true)) ∙ sym more
      | else-met-line+in_ok-push-2 w ↦
          ap (λ v. v.items) w.keys-is ∙ w.in_ok-push-2.ensures.items ∙ ap (λ ks. ks ++ by false ∷ []) c.loop-line.invariant ∙ ap (λ k. map key (range_with_len 0 i) ++ k ∷ []) (sym (ap by w.if-met-line.false)) ∙ sym more
    ]
