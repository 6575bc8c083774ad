use Rattle.std.proofs.Common.{◌≡◌, ◌+◌, Bool, true, false, [], ◌∷◌, length, map, drop, refl, sym, ap, ◌∙◌, subst, arith}
use Rattle.std.specs.Prelude.{not}
use Rattle.std.specs.List.{AllByRecursion}
use Rattle.place_graph.specs.declared.leg.Leg.{Leg}
use Rattle.place_graph.specs.declared.numbers.BurstNumbers.{BurstNumbers}
use Rattle.place_graph.specs.Graph.{with_new, is_act, inputs_of, syms, same_set}
use Rattle.place_graph.specs.Mirror.Numbers.{AreBurstNumbers, IsInput}
use Rattle.place_graph.proofs.Chosen.{chosen_here, chosen_other}
use Rattle.place_graph.proofs.BurstSets.{among_at, sets_known, all_with_new, few_with_new}
use Rattle.place_graph.proofs.draw.number_bursts.Goals as goal
use Rattle.place_graph.proofs.draw.number_bursts.Goals.{then-not-is_act+in_ok-add_burst, else-not-is_act}

pub add_burst-requires-clause-some : goal.add_burst-requires-clause-some
add_burst-requires-clause-some c =
    let l = c.leg-item.result in
    c.requires.some l (among_at c.args.legs.now c.loop-leg.leg-index l c.loop-leg-test.true c.leg-item.is)

pub add_burst-requires-clause-inside : goal.add_burst-requires-clause-inside
add_burst-requires-clause-inside c =
    let l = c.leg-item.result in
    c.requires.symbols l (among_at c.args.legs.now c.loop-leg.leg-index l c.loop-leg-test.true c.leg-item.is)

pub add_burst-requires-clause-sets : goal.add_burst-requires-clause-sets
add_burst-requires-clause-sets c = λ a h.
    let l = c.leg-item.result in
    sets_known c.args.legs.now c.requires.sets l
    (among_at c.args.legs.now c.loop-leg.leg-index l c.loop-leg-test.true c.leg-item.is)
    (sym c.is_act.ensures ∙ c.if-not-is_act.true) a h c.loop-leg.bursts.bursts
    c.loop-leg.invariant.inputs

pub loop-leg-preserved : goal.loop-leg-preserved
loop-leg-preserved c =
    let L = c.args.legs.now in
    let i = c.loop-leg.leg-index in
    let l = c.leg-item.result in
    let among = among_at L i l c.loop-leg-test.true c.leg-item.is in
    let b = syms l.marks in
    let old = c.loop-leg.bursts.bursts in
    let before = c.loop-leg.invariant in
    let takes : (Leg → Bool) = λ m. not (is_act m) in
    let rest = map (λ (k : Leg). syms k.marks) (inputs_of (drop (i + 1) L)) in
    elim c.if-not-is_act.branch [
      | then-not-is_act+in_ok-add_burst w ↦
          let input : is_act l ≡ false = sym c.is_act.ensures ∙ w.if-not-is_act.true in
          let new : c.if-not-is_act.bursts.bursts ≡ with_new same_set old (b ∷ []) = ap
          (λ (x : BurstNumbers). x.bursts) w.bursts-is ∙ w.in_ok-add_burst.ensures.bursts in
          record {
            few = omega (arith, ap length new, few_with_new same_set old (b ∷ []), before.few);
            inputs = subst (λ x. AllByRecursion (IsInput L) x) (sym new)
                (all_with_new (IsInput L) same_set old (b ∷ []) before.inputs
                (record { leg = l; among = among; takes = input; burst = refl }, tt));
            bursts = ap (λ x. with_new same_set x rest) new
                ∙ ap (λ ls. with_new same_set old (map (λ (k : Leg). syms k.marks) ls))
                (sym (chosen_here takes L i l c.loop-leg-test.true c.leg-item.is (ap not input)))
                ∙ before.bursts;
            sized = ap (λ (x : BurstNumbers). length x.numbers.items) w.bursts-is
                ∙ w.in_ok-add_burst.ensures.sized;
            numbers = subst (λ (x : BurstNumbers). AreBurstNumbers x.numbers.items x.bursts)
                (sym w.bursts-is) w.in_ok-add_burst.ensures.numbers;
          }
      | else-not-is_act w ↦
          let output : is_act l ≡ true = sym c.is_act.ensures ∙ w.if-not-is_act.false in
          let same : c.if-not-is_act.bursts.bursts ≡ old = ap (λ (x : BurstNumbers). x.bursts) w.bursts-is in
          record {
            few = omega (arith, ap length same, before.few);
            inputs = subst (λ x. AllByRecursion (IsInput L) x) (sym same) before.inputs;
            bursts = ap (λ x. with_new same_set x rest) same
                ∙ ap (λ ls. with_new same_set old (map (λ (k : Leg). syms k.marks) ls))
                (sym (chosen_other takes L i l c.loop-leg-test.true c.leg-item.is (ap not output)))
                ∙ before.bursts;
            sized = ap (λ (x : BurstNumbers). length x.numbers.items) w.bursts-is ∙ before.sized;
            numbers = subst (λ (x : BurstNumbers). AreBurstNumbers x.numbers.items x.bursts)
                (sym w.bursts-is) before.numbers;
          }
    ]
