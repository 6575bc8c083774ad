use Rattle.std.proofs.Common.{◌≡◌, ◌+◌, Bool, true, false, List, [], ◌∷◌, ◌++◌, length, map, drop, sym, ap, ◌∙◌, arith, append_assoc, append-nil}
use Rattle.std.specs.Prelude.{not}
use Rattle.std.specs.List.{position_or_len}
use Rattle.std.proofs.lemmas.List.{drop_all}
use Rattle.place_graph.specs.declared.leg.Leg.{Leg}
use Rattle.place_graph.specs.declared.wait_graph.Cross.{Cross}
use Rattle.place_graph.specs.Mirror.Numbers.{PointNumbers}
use Rattle.place_graph.specs.Graph.{is_act, inputs_of, wait_points, act_points, index_of, syms, has_sym, same_set, bursts_of, cross, in_order}
use Rattle.place_graph.proofs.BurstSets.{among_at, bursts_few, bursts_inputs, sets_known, place_agree}
use Rattle.place_graph.proofs.Chosen.{chosen_here, chosen_other}
use Rattle.place_graph.proofs.InOrder.{cross_is}
use Rattle.place_graph.proofs.draw.crosses.Goals as goal
use Rattle.place_graph.proofs.draw.crosses.Goals.{then-not-is_act+in_ok-push, else-not-is_act}

pub index-requires : goal.index-requires
index-requires c =
    let l = c.leg-item.result in
    omega (
      arith,
      ap (λ (n : PointNumbers). n.bound) c.requires.waits,
      (c.requires.legs.within l
          (among_at c.args.legs.now c.loop-leg.leg-index l c.loop-leg-test.true c.leg-item.is)).0,
    )

pub first_sym-requires : goal.first_sym-requires
first_sym-requires c =
    let l = c.leg-item.result in
    c.requires.legs.some l
    (among_at c.args.legs.now c.loop-leg.leg-index l c.loop-leg-test.true c.leg-item.is)

pub index-requires-then-not-is_act-clause-inside : goal.index-requires-then-not-is_act-clause-inside
index-requires-then-not-is_act-clause-inside c =
    let l = c.leg-item.result in
    omega (
      arith,
      c.requires.bursts.sized,
      c.first_sym.ensures.inside
          (c.requires.legs.symbols l
          (among_at c.args.legs.now c.loop-leg.leg-index l c.loop-leg-test.true c.leg-item.is)),
    )

pub index-requires-then-not-is_act-clause-few : goal.index-requires-then-not-is_act-clause-few
index-requires-then-not-is_act-clause-few c = omega
    (arith, ap length c.requires.bursts.bursts, bursts_few c.args.legs.now, c.requires.legs.few)

pub index-requires-then-not-is_act-2 : goal.index-requires-then-not-is_act-2
index-requires-then-not-is_act-2 c =
    let l = c.leg-item.result in
    omega (
      arith,
      ap (λ (n : PointNumbers). n.bound) c.requires.acts,
      (c.requires.legs.within l
          (among_at c.args.legs.now c.loop-leg.leg-index l c.loop-leg-test.true c.leg-item.is)).1,
    )

pub loop-leg-preserved : goal.loop-leg-preserved
loop-leg-preserved c =
    let L = c.args.legs.now in
    let i = c.loop-leg.leg-index in
    let l = c.leg-item.result in
    let among = among_at L i l c.loop-leg-test.true c.leg-item.is in
    let old = c.loop-leg.crosses.items in
    let takes : (Leg → Bool) = λ m. not (is_act m) in
    let rest = map (cross L) (inputs_of (drop (i + 1) L)) in
    elim c.if-not-is_act.branch [
      | then-not-is_act+in_ok-push w ↦
          let input : is_act l ≡ false = sym c.is_act.ensures ∙ w.if-not-is_act.true in
          let wait : w.index.result ≡ index_of l.from (wait_points L) = w.index.ensures
          ∙ ap (λ (n : PointNumbers). index_of l.from n.points) c.requires.waits in
          let act : w.index-then-not-is_act-2.result ≡ index_of l.to (act_points L) =
          w.index-then-not-is_act-2.ensures
          ∙ ap (λ (n : PointNumbers). index_of l.to n.points) c.requires.acts in
          let burst : w.index-then-not-is_act.result ≡ position_or_len (same_set (syms l.marks)) (bursts_of L) =
          w.index-then-not-is_act.ensures ∙ ap (λ bs. position_or_len (has_sym w.first_sym.result) bs)
          c.requires.bursts.bursts
          ∙ place_agree (has_sym w.first_sym.result) (same_set (syms l.marks)) (bursts_of L)
          (sets_known L c.requires.legs.sets l among input w.first_sym.result w.first_sym.ensures.has
          (bursts_of L) (bursts_inputs L)) in
          ap (λ v. v.items ++ rest) w.crosses-is
          ∙ ap (λ (xs : List Cross). xs ++ rest) w.in_ok-push.ensures.items
          ∙ ap (λ x. (old ++ x ∷ []) ++ rest) (cross_is _ (cross L l) wait burst act)
          ∙ append_assoc old (cross L l ∷ []) rest
          ∙ ap (λ ls. old ++ map (cross L) ls)
          (sym (chosen_here takes L i l c.loop-leg-test.true c.leg-item.is (ap not input)))
          ∙ c.loop-leg.invariant
      | else-not-is_act w ↦
          let output : is_act l ≡ true = sym c.is_act.ensures ∙ w.if-not-is_act.false in
          ap (λ v. v.items ++ rest) w.crosses-is
          ∙ ap (λ ls. old ++ map (cross L) ls)
          (sym (chosen_other takes L i l c.loop-leg-test.true c.leg-item.is (ap not output)))
          ∙ c.loop-leg.invariant
    ]

pub returns : goal.returns
returns c =
    let L = c.args.legs.now in
    let none = drop_all c.loop-leg.leg-index L c.loop-leg-test.false in
    c.from_vec.ensures ∙ c.sort.ensures
    ∙ ap in_order
    (sym (append-nil c.loop-leg.crosses.items)
    ∙ ap (λ ls. c.loop-leg.crosses.items ++ map (cross L) (inputs_of ls)) (sym none)
    ∙ c.loop-leg.invariant)
