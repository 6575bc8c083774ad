-- The network of rounds has few wires.
use Rattle.std.specs.Prelude.{filter, if◌then◌else◌}
use Rattle.std.proofs.Common.{◌≡◌, ℕ, zero, suc, ◌+◌, ◌≤◌, Bool, true, false, List, [], ◌∷◌, ◌++◌, map, length, refl, arith, length-append}
use Rattle.std.proofs.lemmas.List.{length-map}
use Rattle.std.proofs.lemmas.List.FromFn.{length-map-range_with_len}
use Rattle.basic_kinds.specs.Totals.{total}
use Rattle.basic_kinds.proofs.Totals.{total_same, total_le, total_none}
use Rattle.net_laws.specs.ForkChain.{each}
use Rattle.net_laws.proofs.Blocks.{each_long}
use Rattle.place_graph.specs.declared.leg.Leg.{Leg}
use Rattle.place_graph.specs.Graph.{is_act, acts_of, act, syms}
use Rattle.plain_split.specs.RoundsNet.{pow, leaf, Wire, To, Go, Put, Top}
use Rattle.plain_split.specs.RoundsChart.{Parts, is_single, back, on, ends_inside, count, outer, outer_ports, places, puts, inner_wires, lines}
use Rattle.plain_split.specs.RoundsParts.{outs_at}
use Rattle.plain_split.proofs.OneWaitWires.{marks_in}
use Rattle.plain_split.proofs.RoundsLists.{total_first}
use Rattle.plain_split.proofs.RoundsRight.{filter_short}

-- the outputs of the acts are marks of legs
outs_marks : (M A : List Leg) (n : ℕ) → total n (λ y. length (outs_at (map (act M) A) y)) ≤ marks_in A
unfolding total
outs_marks M [] n = omega (arith, total_none n (λ y. length (outs_at (map (act M) []) y)) (λ y low. refl))
outs_marks M (l ∷ A) zero = omega arith
outs_marks M (l ∷ A) (suc n) = omega (
  arith,
  total_first n (λ y. length (outs_at (map (act M) (l ∷ A)) y)),
  outs_marks M A n,
  length-map (syms l.marks) (λ a. a.0),
  length-map l.marks (λ m. m.sym),
)

acts_marks : (L : List Leg) → marks_in (acts_of L) ≤ marks_in L
acts_marks [] = omega arith
acts_marks (l ∷ L) = at (is_act l) (acts_marks L)
  where
    at : (b : Bool) → marks_in (acts_of L) ≤ marks_in L → marks_in (if b then l ∷ acts_of L else acts_of L) ≤ length l.marks + marks_in L
    at true h = omega arith
    at false h = omega arith

pub outs_few : (L : List Leg) (n : ℕ) → total n (λ y. length (outs_at (map (act L) (acts_of L)) y)) ≤ marks_in L
outs_few L n = omega (arith, outs_marks L (acts_of L) n, acts_marks L)

pow_sum : (e : ℕ) → total e (λ d. pow (suc d)) + 2 ≡ pow (suc e)
unfolding total
pow_sum zero = refl
pow_sum (suc e) = omega (arith, pow_sum e)

module _ (r : Parts) where
  abbrev top : Bool → List Wire
  top b = if b then [] else To Top ∷ []

  abbrev go : Bool → List Wire
  go b = if b then Go 0 ∷ [] else []

  top_few : (b : Bool) → length (top b) ≤ 1
  top_few true = omega arith
  top_few false = omega arith

  go_few : (b : Bool) → length (go b) ≤ 1
  go_few true = omega arith
  go_few false = omega arith

  pub wires_few : length (lines r) ≤ count r + (pow r.levels + pow r.levels) + total (pow r.levels) (λ y. length (r.outs y))
  wires_few = omega (
    arith,
    length-append (map (back r) (outer_ports r)) (filter (λ w. ends_inside (on r w)) (inner_wires r)),
    length-map (outer_ports r) (back r),
    length-map-range_with_len (outer r) 0 (count r),
    filter_short (λ w. ends_inside (on r w)) (inner_wires r),
    length-append (top (is_single r.burst)) (each (places r) r.levels ++ (go r.opens ++ each (puts r) (pow r.levels))),
    length-append (each (places r) r.levels) (go r.opens ++ each (puts r) (pow r.levels)),
    length-append (go r.opens) (each (puts r) (pow r.levels)),
    top_few (is_single r.burst),
    go_few r.opens,
    each_long (places r) r.levels,
    total_same r.levels (λ d. length (places r d)) (λ d. pow (suc d)) (λ d low. length-map-range_with_len (λ i. To (leaf (suc d) i)) 0 (pow (suc d))),
    pow_sum r.levels,
    each_long (puts r) (pow r.levels),
    total_le (pow r.levels) (λ y. length (puts r y)) (λ y. length (r.outs y)) (λ y low. puts_few (is_single (r.outs y)) y),
  )
    where
      puts_few : (b : Bool) (y : ℕ) → length (if b then [] else map (Put y) (r.outs y)) ≤ length (r.outs y)
      puts_few true y = omega arith
      puts_few false y = omega (arith, length-map (r.outs y) (Put y))
