use Rattle.std.proofs.Common.{◌≡◌, ◌∙◌, ◌++◌, ◌∷◌, [], sym, ap, subst, arith}
use Rattle.std.proofs.lemmas.List.{length_push}
use Rattle.std.specs.List.{Contains}
use Rattle.trace_laws.specs.Listed.{output_by}
use Rattle.trace_laws.specs.Mirror.Faults.{CarryAt, exchanged}
use Rattle.trace_laws.proofs.Linked.{exchanged_push, same_row}
use Rattle.trace_laws.proofs.Members.{told, told_not}
use Rattle.trace_laws.proofs.Offers.{none_offered, same_offers}
use Rattle.trace_laws.proofs.places.offer_carry.Goals as goal

pub returns-then-not-is_listed : goal.returns-then-not-is_listed
returns-then-not-is_listed c = λ W r s. none_offered (CarryAt (output_by c.args.dirs.now) W c.args.front.now c.args.last c.args.place) c.args.least
    (λ t h. told_not (c.if-not-is_listed.ensures W c.args.front.now (same_row W c.args.front.now c.args.rows.now.before.items _ c.as_slice.ensures.value r) h.within) h.present)

pub returns-then-is_listed : goal.returns-then-is_listed
returns-then-is_listed c = λ W r s.
    let whole = c.args.front.now ++ c.args.last ∷ [] in
    none_offered (CarryAt (output_by c.args.dirs.now) W c.args.front.now c.args.last c.args.place) c.args.least
    (λ t h. h.missing (subst (Contains W) (exchanged_push c.args.front.now c.args.last c.args.place h.within ∙ sym h.is)
    (told (c.if-is_listed.ensures W whole (same_row W whole c.args.rows.now.after.items _ c.as_slice-2.ensures.value s)
    (omega (arith, h.within, length_push c.args.front.now c.args.last))))))

pub returns : goal.returns
returns c = λ W r s.
    let opposite = told c.if-not-are_opposite.ensures in
    let whole = c.args.front.now ++ c.args.last ∷ [] in
    let e : c.in_ok-longer.longer ≡ exchanged c.args.front.now c.args.place ++ c.args.last ∷ [] =
    c.in_ok-longer.ensures ∙ ap (λ w. w ++ c.args.last ∷ []) c.in_ok-other.ensures in
    same_offers (λ t. t ≡ c.in_ok-longer.longer)
    (CarryAt (output_by c.args.dirs.now) W c.args.front.now c.args.last c.args.place) c.args.least c.offer.result
    (λ t f. record {
      within = opposite.0;
      differ = opposite.1;
      alike = grind arith;
      present = told (c.if-not-is_listed.ensures W c.args.front.now (same_row W c.args.front.now c.args.rows.now.before.items _ c.as_slice.ensures.value r) opposite.0);
      is = f ∙ e;
      missing = λ h. told_not (c.if-is_listed.ensures W whole (same_row W whole c.args.rows.now.after.items _ c.as_slice-2.ensures.value s)
          (omega (arith, opposite.0, length_push c.args.front.now c.args.last)))
          (subst (Contains W) (f ∙ e ∙ sym (exchanged_push c.args.front.now c.args.last c.args.place opposite.0)) h);
    })
    (λ t h. h.is ∙ sym e)
    c.offer.ensures
