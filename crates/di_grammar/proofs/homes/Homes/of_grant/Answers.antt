use Rattle.std.proofs.Common.{arith, ◌≡◌, List, [], ◌∷◌, ◌++◌, take, length, sym, ap, ◌∙◌, subst}
use Rattle.std.proofs.lemmas.List.{take_all, take_more, length-take-le}
use Rattle.cmd_tree.specs.Tree.{TSeq}
use Rattle.cmd_tree.specs.View.{seqs_of}
use Rattle.di_grammar.specs.Breaches.{FirstOf}
use Rattle.di_grammar.specs.Mirror.Found.{gifts_of}
use Rattle.di_grammar.specs.Mirror.Homes.{BreaksAt, BreaksGifts}
use Rattle.di_grammar.proofs.HousingGifts.{gift_more, place_fits}
use Rattle.di_grammar.specs.Mirror.Lesser.{earlier_of}
use Rattle.di_grammar.proofs.homes.Homes.of_grant.Goals as goal

pub loop-seq-init : goal.loop-seq-init
loop-seq-init c = record { place = omega (arith, c.first_place-place.ensures); first = λ ps small known b h. h }

pub overflow_add-place : goal.overflow_add-place
overflow_add-place c =
    omega (arith, c.step-step.ensures, c.loop-seq.invariant.place, place_fits c.args.grant.form c.loop-seq.seq-index _ c.loop-seq-test.true c.requires)

pub loop-seq-preserved : goal.loop-seq-preserved
loop-seq-preserved c = record {
  place = omega (arith, c.loop-seq.invariant.place, c.step-step.ensures);
  first = λ ps small known.
      let index = c.loop-seq.seq-index in
      let choice = c.args.grant.choice.now in
      let form = c.args.grant.form in
      let long : index ≡ length (take index choice) = sym (length-take-le index choice (omega (arith, c.loop-seq-test.true))) in
      let here = subst (λ a. FirstOf (BreaksAt ps c.args.number c.loop-seq.place a) c.of_symbol.result) c.given_symbol.ensures (c.of_symbol.ensures ps small known) in
      rw c.earlier_of-found.ensures (subst (λ (xs : List TSeq). FirstOf (BreaksGifts ps c.args.number (gifts_of form (seqs_of xs))) (earlier_of c.loop-seq.found c.of_symbol.result))
      (ap (λ (x : TSeq). take index choice ++ x ∷ []) c.seq-item.is
      ∙ sym (take_more choice index c.seq-item.result c.loop-seq-test.true))
      (gift_more ps c.args.number c.loop-seq.place form index (take index choice) c.seq-item.result _ _ long c.loop-seq.invariant.place
      (c.loop-seq.invariant.first ps small known) here));
}

pub returns : goal.returns
returns c = λ ps small known.
    subst (λ (xs : List TSeq). FirstOf (BreaksGifts ps c.args.number (gifts_of c.args.grant.form (seqs_of xs))) c.loop-seq.found)
    (take_all c.loop-seq.seq-index c.args.grant.choice.now c.loop-seq-test.false) (c.loop-seq.invariant.first ps small known)
