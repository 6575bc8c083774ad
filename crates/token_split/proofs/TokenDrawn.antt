-- The links of the graph of a process are those of its legs.
use Rattle.std.proofs.Common.{◌≡◌, ◌↔◌, ◌⊎◌, inl, inr, ℕ, ◌<◌, ◌≤◌, Bool, true, false, true≢false, filter, List, [], ◌∷◌, length, map, get_or, refl, sym, ap, ◌∙◌, subst, arith, if◌then◌else◌, eq-eqb, eqb-true, lt-ltb, Option, Some, None}
use Rattle.std.specs.Prelude.{not, ◌&&◌, nat_eq, nat_lt}
use Rattle.std.specs.List.{range_with_len, position_or_len, list_any, list_all}
use Rattle.std.proofs.lemmas.Bool.{cases_lt, cases_eq, cases_Bool}
use Rattle.std.proofs.lemmas.List.{get_or_past}
use Rattle.std.proofs.lemmas.Option.{get_or_from_slice_get}
use Rattle.cmd_tree.specs.Lists.{is_in}
use Rattle.cmd_tree.specs.Meaning.{symbols}
use Rattle.basic_kinds.specs.Shapes.{is_within, is_rising}
use Rattle.basic_kinds.specs.ShapeParts.{label, has_row, has_column, local_crossing, local_part}
use Rattle.basic_kinds.specs.Sorts.{how_many_below}
use Rattle.place_graph.specs.declared.leg.Leg.{Leg}
use Rattle.place_graph.specs.declared.wait_graph.Act.{Act}
use Rattle.place_graph.specs.declared.wait_graph.Cross.{Cross as Crossing}
use Rattle.place_graph.specs.declared.wait_graph.Start.TheVariants as start
use Rattle.place_graph.specs.Points.{Among as Member}
use Rattle.place_graph.specs.Graph.{is_act, acts_of, inputs_of, act_points, wait_points, index_of, bursts_of, points_of, same_set, syms, burst_number, home_number, cross, act, numbered, number_at}
use Rattle.place_graph.specs.Tale.{one_if}
use Rattle.place_graph.specs.Chart.{Has, Chart, LeadsOn, sum_where, to_at, from_at, in_leg}
use Rattle.place_graph.specs.Drawable.{AreSets}
use Rattle.place_graph.proofs.Sums.{times_from_in, one_same, one_other}
use Rattle.place_graph.proofs.Positions.{some_position, place_is}
use Rattle.place_graph.proofs.Listed.{point_at, index_one, in_points, points_in, leg_at, homes_known, filter_one, burst_numbered, Numbered as BurstNumber}
use Rattle.net_laws.proofs.Among.{Among, Distinct, at_among, distinct_at}
use Rattle.net_laws.proofs.Rows.{distinct_row}
use Rattle.plain_split.proofs.SharedLists.{among_filter, filter_among, distinct_filter}
use Rattle.plain_split.proofs.OneWaitSums.{sum_tests}
use Rattle.plain_split.proofs.OneWaitWeb.{sum_of}
use Rattle.plain_split.proofs.OneWaitTraces.{among_map, map_among}
use Rattle.plain_split.proofs.OneWaitDrawn as graph
use Rattle.plain_split.proofs.OneWaitDrawn.{among_in, in_among, once_distinct, sum_by_test, sum_in_order, sum_legs, sum_acts, first_place, apart_new, slice_low, map_two, long_map, id_map, low_in, in_low, places_once, range_by, was_not, same_bool, and_both, both_and}
use Rattle.token_split.specs.TokenChart.{Links, links, is_open, pair, listed as exit_list}
use Rattle.token_split.proofs.TokenCounts.{Numbered, Acts, Inputs, enters, next_act, next_wait, apart, from_wait, leaves, one_burst, one_leg, one_cross, inputs_with, input_has}
use Rattle.token_split.proofs.TokenTraces.{Drawn}
use Rattle.token_split.proofs.TokenRoutes.{Listed}
use Rattle.token_split.proofs.TokenParts.{IsPart}
use Rattle.token_split.proofs.TokenLists.{any_among, among_any, sum_chosen, filter_twice, place_below, distinct_new, sorted_in_order, sorted_filter, distinct_in_order, all_mapped, local_rises, label_low, label_joins}

-- a list of at most one is without repetition
exit_once : (o : Option ℕ) → Distinct (exit_list o)
exit_once None = tt
exit_once (Some x) = ((λ a. a), tt)

module _ (L : List Leg) (out : ℕ → Bool) (chart : Chart L out) (sets : AreSets L) (names : ℕ) (on : (l : Leg) → Member L l → LeadsOn L l)
    (known : (a : ℕ) → a < names ↔ ((l : Leg) × Member L l × Has l a)) (reached : (m : Leg) → Member L m → (m.from ≡ 1) ⊎ ((l : Leg) × Member L l × (l.to ≡ m.from)))
    (first : (l : Leg) × Member L l × (l.from ≡ 1)) where
  abbrev pub g : Links
  g = links (numbered L) names

  abbrev pub key : Leg → ℕ
  key l = burst_number L l

  abbrev pub home : ℕ → ℕ
  home a = home_number L a

  abbrev pub no : ℕ → ℕ
  no x = index_of x (act_points L)

  abbrev pub wait : ℕ → ℕ
  wait x = index_of x (wait_points L)

  abbrev IsActLeg : Leg → Type 0
  IsActLeg m = Acts L out key home no wait m

  abbrev IsInputLeg : Leg → Type 0
  IsInputLeg l = Inputs L out key home no wait l

  abbrev takes : Leg → Bool
  takes l = not (is_act l)

  in_acts : (m : Leg) → IsActLeg m → is_in m.from (act_points L) ≡ true
  in_acts m i = in_points is_act L m i.0 i.1

  in_waits : (l : Leg) → IsInputLeg l → is_in l.from (wait_points L) ≡ true
  in_waits l i = in_points takes L l i.0 (ap not i.1)

  pub numbers : Numbered L out key home no wait
  numbers = record {
    chart = chart;
    on = on;
    homes = homes_known L sets;
    one_no = λ m n a b i j e. chart.lone n m b a j (index_one m.from n.from (act_points L) (in_acts m (a, i)) (in_acts n (b, j)) e);
    one_wait = λ l k a b i j e. index_one l.from k.from (wait_points L) (in_waits l (a, i)) (in_waits k (b, j)) e;
  }

  -- ---- waits by number

  wait_low : (l : Leg) → IsInputLeg l → wait l.from < length (wait_points L)
  wait_low l i = slice_low (wait_points L) (wait l.from) l.from (point_at l.from (wait_points L) (in_waits l i))

  waits_once : Distinct (wait_points L)
  waits_once = distinct_new [] (points_of (inputs_of L)) tt

  -- the leg from a wait with a number
  wait_leg : (x : ℕ) → x < length (wait_points L) → (l : Leg) × IsInputLeg l × (wait l.from ≡ x)
  wait_leg x low =
      let y : ℕ = get_or (wait_points L) x 0 in
      let there : is_in y (wait_points L) ≡ true = among_in y (wait_points L) (at_among 0 (wait_points L) x low) in
      let (l, a, i, e) = points_in takes L y there in
      let here : get_or (wait_points L) (wait l.from) 0 ≡ l.from = get_or_from_slice_get (wait_points L) (wait l.from) l.from 0 (point_at l.from (wait_points L) (in_waits l (a, was_not (is_act l) i))) in
      (l, (a, was_not (is_act l) i), distinct_at 0 (wait_points L) waits_once (wait l.from) x (wait_low l (a, was_not (is_act l) i)) low (here ∙ e))

  -- ---- where the process begins

  first_input : is_in 1 (act_points L) ≡ false → (l : Leg) × IsInputLeg l × (l.from ≡ 1)
  first_input none =
      let (l, a, e) = first in
      elim (cases_Bool (is_act l)) [
        | inl i ↦ absurd (true≢false (sym (subst (λ x. is_in x (act_points L) ≡ true) e (in_acts l (a, i))) ∙ none))
        | inr i ↦ (l, (a, i), e)
      ]

  opens_at : (l : Leg) → IsInputLeg l → (if g.opens (wait l.from) then 1 else 0) ≡ one_if l.from 1
  opens_at l i = by (is_in 1 (act_points L)) refl
    where
      by : (b : Bool) → is_in 1 (act_points L) ≡ b → (if is_open (wait l.from) (if b then start.Act (no 1) else start.Wait (wait 1)) then 1 else 0) ≡ one_if l.from 1
      by true e =
          let (m, a, t, z) = points_in is_act L 1 e in
          sym (one_other l.from 1 (λ y. apart L out key home no wait numbers m l (a, t) i (z ∙ sym y)))
      by false e = elim (cases_eq l.from 1) [
        | inl z ↦ one_same (wait l.from) (wait 1) (ap wait z) ∙ sym (one_same l.from 1 z)
        | inr z ↦
            let (k, j, y) = first_input e in
            one_other (wait l.from) (wait 1) (λ w. z (index_one l.from 1 (wait_points L) (in_waits l i) (subst (λ x. is_in x (wait_points L) ≡ true) y (in_waits k j)) w)) ∙ sym (one_other l.from 1 z)
      ]

  wait_start : (x : ℕ) → g.opens x ≡ true → (l : Leg) × IsInputLeg l × (wait l.from ≡ x)
  wait_start x h = by (is_in 1 (act_points L)) refl h
    where
      by : (b : Bool) → is_in 1 (act_points L) ≡ b → is_open x (if b then start.Act (no 1) else start.Wait (wait 1)) ≡ true → (l : Leg) × IsInputLeg l × (wait l.from ≡ x)
      by true e k = absurd (true≢false (sym k))
      by false e k = let (l, i, z) = first_input e in (l, i, ap wait z ∙ sym (eqb-true x (wait 1) k))

  -- ---- the parts of the crossings

  abbrev crosses : List Crossing
  crosses = graph.crosses L out chart sets names

  abbrev pairs : List (ℕ × ℕ)
  pairs = map pair crosses

  abbrev Is : Leg → Crossing → Type 0
  Is l k = ◌≡◌ {A = Crossing} (record { wait = wait l.from; burst = key l; act = no l.to }) k

  cross_in : (l : Leg) → IsInputLeg l → Among (cross L l) crosses
  cross_in l i = graph.cross_in L out chart sets names l i

  of_cross : (k : Crossing) → Among k crosses → (l : Leg) × IsInputLeg l × Is l k
  of_cross k a = graph.of_cross L out chart sets names k a

  same_parts : (l : Leg) → IsInputLeg l → g.row_part (wait l.from) ≡ g.column_part (key l)
  same_parts l i = label_joins (length (wait_points L)) pairs (wait l.from, key l) (map_among pair crosses (cross L l) (cross_in l i))

  abbrev in_part : ℕ → Crossing → Bool
  in_part i k = nat_eq (g.row_part k.wait) i

  meet_in : (l : Leg) → IsInputLeg l → Among (cross L l) (g.meets (g.row_part (wait l.from)))
  meet_in l i = among_filter (in_part (g.row_part (wait l.from))) crosses (cross L l) (cross_in l i) (eq-eqb (g.row_part (wait l.from)) (g.row_part (wait l.from)) refl)

  of_meet : (i : ℕ) (k : Crossing) → Among k (g.meets i) → (l : Leg) × IsInputLeg l × Is l k × (g.row_part (wait l.from) ≡ i)
  of_meet i k a =
      let (b, t) = filter_among (in_part i) crosses k a in
      let (l, j, e) = of_cross k b in
      (l, j, e, ap (λ (c : Crossing). g.row_part c.wait) e ∙ eqb-true (g.row_part k.wait) i t)

  has_row_of : (i : ℕ) (k : Crossing) → Among k (g.meets i) → has_row (map pair (g.meets i)) k.wait ≡ true
  has_row_of i k a = among_any (λ (p : ℕ × ℕ). nat_eq p.0 k.wait) (map pair (g.meets i)) (pair k) (map_among pair (g.meets i) k a) (eq-eqb k.wait k.wait refl)

  has_column_of : (i : ℕ) (k : Crossing) → Among k (g.meets i) → has_column (map pair (g.meets i)) k.burst ≡ true
  has_column_of i k a = among_any (λ (p : ℕ × ℕ). nat_eq p.1 k.burst) (map pair (g.meets i)) (pair k) (map_among pair (g.meets i) k a) (eq-eqb k.burst k.burst refl)

  key_low : (l : Leg) → IsInputLeg l → key l < length (bursts_of L)
  key_low l i =
      let w : BurstNumber L l = burst_numbered L chart.few l i.0 i.1 in
      slice_low (bursts_of L) (key l) w.burst w.is

  rows_in : (l : Leg) → IsInputLeg l → (i : ℕ) → g.row_part (wait l.from) ≡ i → Among (wait l.from) (g.rows i)
  rows_in l j i e = among_filter (has_row (map pair (g.meets i))) (range_with_len 0 (length (wait_points L))) (wait l.from) (low_in (length (wait_points L)) (wait l.from) (wait_low l j))
      (has_row_of i (cross L l) (subst (λ i. Among (cross L l) (g.meets i)) e (meet_in l j)))

  columns_in : (l : Leg) → IsInputLeg l → (i : ℕ) → g.row_part (wait l.from) ≡ i → Among (key l) (g.columns i)
  columns_in l j i e = among_filter (has_column (map pair (g.meets i))) (range_with_len 0 (length (bursts_of L))) (key l) (low_in (length (bursts_of L)) (key l) (key_low l j))
      (has_column_of i (cross L l) (subst (λ i. Among (cross L l) (g.meets i)) e (meet_in l j)))

  -- the crossing of a row and of a column
  row_cross : (i x : ℕ) → Among x (g.rows i) → (k : Crossing) × Among k (g.meets i) × (k.wait ≡ x)
  row_cross i x a =
      let (b, t) = filter_among (has_row (map pair (g.meets i))) (range_with_len 0 (length (wait_points L))) x a in
      let (p, c, e) = any_among (λ (p : ℕ × ℕ). nat_eq p.0 x) (map pair (g.meets i)) t in
      let (k, d, f) = among_map pair (g.meets i) p c in
      (k, d, ap (λ (q : ℕ × ℕ). q.0) (sym f) ∙ eqb-true p.0 x e)

  column_cross : (i b : ℕ) → Among b (g.columns i) → (k : Crossing) × Among k (g.meets i) × (k.burst ≡ b)
  column_cross i b a =
      let (c, t) = filter_among (has_column (map pair (g.meets i))) (range_with_len 0 (length (bursts_of L))) b a in
      let (p, d, e) = any_among (λ (p : ℕ × ℕ). nat_eq p.1 b) (map pair (g.meets i)) t in
      let (k, h, f) = among_map pair (g.meets i) p d in
      (k, h, ap (λ (q : ℕ × ℕ). q.1) (sym f) ∙ eqb-true p.1 b e)

  -- the sum over crossings that pass a test
  chosen_sum : (p : Crossing → Bool) (c : Crossing → ℕ) → sum_of c (filter p crosses) ≡ sum_where L (λ l. not (is_act l) && p (cross L l)) (λ l. c (cross L l))
  chosen_sum p c = sum_chosen p c crosses ∙ sum_in_order p c (map (cross L) (inputs_of L)) ∙ sum_legs p c (cross L) L

  row_sum_is : (l : Leg) → IsInputLeg l → (c : Crossing → ℕ)
      → sum_of c (filter (λ k. nat_eq k.wait (wait l.from)) (g.meets (g.row_part (wait l.from)))) ≡ sum_where L (from_at l.from) (λ k. c (cross L k))
  row_sum_is l i c =
      ap (sum_of c) (filter_twice (λ k. nat_eq k.wait (wait l.from)) (in_part (g.row_part (wait l.from))) crosses)
      ∙ chosen_sum (λ k. in_part (g.row_part (wait l.from)) k && nat_eq k.wait (wait l.from)) c
      ∙ sum_tests L (λ k. not (is_act k) && (in_part (g.row_part (wait l.from)) (cross L k) && nat_eq (wait k.from) (wait l.from))) (from_at l.from) (λ k. c (cross L k)) (λ k. c (cross L k))
      (λ k a. same_bool (not (is_act k) && (in_part (g.row_part (wait l.from)) (cross L k) && nat_eq (wait k.from) (wait l.from))) (nat_eq l.from k.from)
      (λ h.
      let (t, r) = and_both (not (is_act k)) (in_part (g.row_part (wait l.from)) (cross L k) && nat_eq (wait k.from) (wait l.from)) h in
      let (p, q) = and_both (in_part (g.row_part (wait l.from)) (cross L k)) (nat_eq (wait k.from) (wait l.from)) r in
      eq-eqb l.from k.from (sym (index_one k.from l.from (wait_points L) (in_waits k (a, was_not (is_act k) t)) (in_waits l i) (eqb-true (wait k.from) (wait l.from) q))))
      (λ h.
      let e : k.from ≡ l.from = sym (eqb-true l.from k.from h) in
      let j : IsInputLeg k = from_wait L out key home no wait numbers l k i a e in
      both_and (not (is_act k)) (in_part (g.row_part (wait l.from)) (cross L k) && nat_eq (wait k.from) (wait l.from)) (ap not j.1)
      (both_and (in_part (g.row_part (wait l.from)) (cross L k)) (nat_eq (wait k.from) (wait l.from)) (eq-eqb (g.row_part (wait k.from)) (g.row_part (wait l.from)) (ap (λ x. g.row_part (wait x)) e))
      (eq-eqb (wait k.from) (wait l.from) (ap wait e)))))
      (λ k a. refl)

  column_sum_is : (l : Leg) (a : ℕ) → IsInputLeg l → Has l a → (c : Crossing → ℕ)
      → sum_of c (filter (λ k. nat_eq k.burst (key l)) (g.meets (g.column_part (key l)))) ≡ sum_where L (in_leg a) (λ k. c (cross L k))
  column_sum_is l a i h c =
      ap (sum_of c) (filter_twice (λ k. nat_eq k.burst (key l)) (in_part (g.column_part (key l))) crosses)
      ∙ chosen_sum (λ k. in_part (g.column_part (key l)) k && nat_eq k.burst (key l)) c
      ∙ sum_tests L (λ k. not (is_act k) && (in_part (g.column_part (key l)) (cross L k) && nat_eq (key k) (key l))) (in_leg a) (λ k. c (cross L k)) (λ k. c (cross L k))
      (λ k b. same_bool (not (is_act k) && (in_part (g.column_part (key l)) (cross L k) && nat_eq (key k) (key l))) (in_leg a k)
      (λ x.
      let (t, r) = and_both (not (is_act k)) (in_part (g.column_part (key l)) (cross L k) && nat_eq (key k) (key l)) x in
      let (p, q) = and_both (in_part (g.column_part (key l)) (cross L k)) (nat_eq (key k) (key l)) r in
      numbers.homes.keys l k a i.0 b i.1 (was_not (is_act k) t) (sym (eqb-true (key k) (key l) q)) h)
      (λ x.
      let j : IsInputLeg k = inputs_with L out key home no wait numbers k a b (input_has L out key home no wait numbers l a i h) x in
      let e : key k ≡ key l = one_burst L out key home no wait numbers k l a j i x h in
      both_and (not (is_act k)) (in_part (g.column_part (key l)) (cross L k) && nat_eq (key k) (key l)) (ap not j.1)
      (both_and (in_part (g.column_part (key l)) (cross L k)) (nat_eq (key k) (key l))
      (eq-eqb (g.row_part (wait k.from)) (g.column_part (key l)) (same_parts k j ∙ ap g.column_part e)) (eq-eqb (key k) (key l) e))))
      (λ k b. refl)

  -- ---- crossings of an act

  entry_in : (l : Leg) → IsInputLeg l → Among (cross L l) (g.entries (no l.to))
  entry_in l i = among_filter (λ k. nat_eq k.act (no l.to)) crosses (cross L l) (cross_in l i) (eq-eqb (no l.to) (no l.to) refl)

  of_entry : (k : Crossing) (n : ℕ) → Among k (g.entries n) → (l : Leg) × IsInputLeg l × Is l k × (no l.to ≡ n)
  of_entry k n a =
      let (b, t) = filter_among (λ k. nat_eq k.act n) crosses k a in
      let (l, j, e) = of_cross k b in
      (l, j, e, ap (λ (c : Crossing). c.act) e ∙ eqb-true k.act n t)

  entry_sum_is : (m : Leg) → IsActLeg m → (c : Crossing → ℕ) → sum_of c (g.entries (no m.from)) ≡ sum_where L (to_at m.from) (λ l. c (cross L l))
  entry_sum_is m j c = chosen_sum (λ k. nat_eq k.act (no m.from)) c
      ∙ sum_tests L (λ l. not (is_act l) && nat_eq (no l.to) (no m.from)) (to_at m.from) (λ l. c (cross L l)) (λ l. c (cross L l))
      (λ l a. same_bool (not (is_act l) && nat_eq (no l.to) (no m.from)) (nat_eq m.from l.to)
      (λ h.
      let (t, e) = and_both (not (is_act l)) (nat_eq (no l.to) (no m.from)) h in
      let (n, k, to) = next_act L out key home no wait numbers l (a, was_not (is_act l) t) in
      eq-eqb m.from l.to (index_one m.from l.to (act_points L) (in_acts m j) (subst (λ x. is_in x (act_points L) ≡ true) to (in_acts n k)) (sym (eqb-true (no l.to) (no m.from) e))))
      (λ h.
      let e : l.to ≡ m.from = sym (eqb-true m.from l.to h) in
      both_and (not (is_act l)) (nat_eq (no l.to) (no m.from)) (ap not (enters L out key home no wait numbers m l j a e).1) (eq-eqb (no l.to) (no m.from) (ap no e))))
      (λ l a. refl)

  -- ---- exits

  exits_are : map (λ (y : Act). y.exit) (map (act L) (acts_of L)) ≡ map (λ (l : Leg). number_at l.to (wait_points L)) (acts_of L)
  exits_are = map_two (λ (y : Act). y.exit) (act L) (acts_of L)

  exit_number : (m : Leg) → IsActLeg m → number_at m.to (wait_points L) ≡ Some (wait m.to)
  exit_number m i =
      let (l, j, e) = next_wait L out key home no wait numbers m i in
      some_position (nat_eq m.to) (wait_points L) (subst (λ x. is_in x (wait_points L) ≡ true) e (in_waits l j)) ∙ ap Some (place_is (nat_eq m.to) (wait_points L))

  exits_is : (m : Leg) → IsActLeg m → g.exits (no m.from) ≡ wait m.to ∷ []
  exits_is m i =
      ap (λ ys. exit_list (get_or ys (no m.from) None)) exits_are
      ∙ ap exit_list (get_or_from_slice_get (map (λ (l : Leg). number_at l.to (wait_points L)) (acts_of L)) (no m.from) (number_at m.to (wait_points L)) None
      (leg_at (λ (l : Leg). number_at l.to (wait_points L)) is_act L chart.increase (λ l k a b x y e. chart.lone k l b a y e) m i.0 i.1))
      ∙ ap exit_list (exit_number m i)

  exits_past : (n : ℕ) → length (acts_of L) ≤ n → g.exits n ≡ []
  exits_past n past = ap (λ ys. exit_list (get_or ys n None)) exits_are
      ∙ ap exit_list (get_or_past (map (λ (l : Leg). number_at l.to (wait_points L)) (acts_of L)) n None (omega (arith, past, long_map (λ (l : Leg). number_at l.to (wait_points L)) (acts_of L))))

  of_exit : (n x : ℕ) → Among x (g.exits n) → (m : Leg) × IsActLeg m × (no m.from ≡ n) × (wait m.to ≡ x)
  of_exit n x h = elim (cases_lt n (length (acts_of L))) [
    | inl low ↦
        let (m, i, e, k) = graph.nth_act L out chart sets names (λ (l : Leg). l.place) 0 n low in
        (m, i, e, sole (wait m.to) (subst (Among x) (exits_is m i) (subst (λ n. Among x (g.exits n)) (sym e) h)))
    | inr past ↦ absurd (subst (Among x) (exits_past n past) h)
  ]
    where
      sole : (y : ℕ) → Among x (y ∷ []) → y ≡ x
      sole y (inl e) = sym e
      sole y (inr a) = absurd a

  exit_of : (m : Leg) → IsActLeg m → Among (wait m.to) (g.exits (no m.from))
  exit_of m i = subst (Among (wait m.to)) (sym (exits_is m i)) (inl refl)

  no_low : (m : Leg) → IsActLeg m → no m.from < g.acts
  no_low m i = omega (arith, graph.number_low L out chart sets names m i, graph.acts_long L out chart sets names)

  return_in : (m : Leg) → IsActLeg m → Among (no m.from) (g.returns (wait m.to))
  return_in m i = among_filter (λ n. is_in (wait m.to) (g.exits n)) (range_with_len 0 g.acts) (no m.from) (low_in g.acts (no m.from) (no_low m i))
      (among_in (wait m.to) (g.exits (no m.from)) (exit_of m i))

  of_return : (x n : ℕ) → Among n (g.returns x) → (m : Leg) × IsActLeg m × (no m.from ≡ n) × (wait m.to ≡ x)
  of_return x n h = let (k, t) = filter_among (λ n. is_in x (g.exits n)) (range_with_len 0 g.acts) n h in of_exit n x (in_among x (g.exits n) t)

  return_sum_is : (l : Leg) → IsInputLeg l → (c : ℕ → ℕ) → sum_of c (g.returns (wait l.from)) ≡ sum_where L (to_at l.from) (λ m. c (no m.from))
  return_sum_is l i c =
      ap (λ ns. sum_of c (filter (λ n. is_in (wait l.from) (g.exits n)) ns)) (sym (graph.numbers_acts L out chart sets names))
      ∙ sum_acts (λ n. is_in (wait l.from) (g.exits n)) c (λ (m : Leg). no m.from) L
      ∙ sum_tests L (λ m. is_act m && is_in (wait l.from) (g.exits (no m.from))) (to_at l.from) (λ m. c (no m.from)) (λ m. c (no m.from))
      (λ m a. same_bool (is_act m && is_in (wait l.from) (g.exits (no m.from))) (nat_eq l.from m.to)
      (λ h.
      let (t, e) = and_both (is_act m) (is_in (wait l.from) (g.exits (no m.from))) h in
      let (k, j, y) = next_wait L out key home no wait numbers m (a, t) in
      let (n, q, z, w) = of_exit (no m.from) (wait l.from) (in_among (wait l.from) (g.exits (no m.from)) e) in
      let same : n ≡ m = numbers.one_no n m q.0 a q.1 t z in
      eq-eqb l.from m.to (index_one l.from m.to (wait_points L) (in_waits l i) (subst (λ x. is_in x (wait_points L) ≡ true) y (in_waits k j)) (sym w ∙ ap (λ (r : Leg). wait r.to) same)))
      (λ h.
      let e : m.to ≡ l.from = sym (eqb-true l.from m.to h) in
      let j : IsActLeg m = leaves L out key home no wait numbers l m i a e in
      both_and (is_act m) (is_in (wait l.from) (g.exits (no m.from))) j.1 (among_in (wait l.from) (g.exits (no m.from)) (subst (λ x. Among (wait x) (g.exits (no m.from))) e (exit_of m j)))))
      (λ m a. refl)

  -- ---- bursts

  bursts_apart : graph.Apart (bursts_of L)
  bursts_apart = apart_new [] (map (λ (l : Leg). syms l.marks) (inputs_of L)) (λ k i less low. absurd (omega arith))

  burst_leg : (b : ℕ) → b < length (bursts_of L) → (l : Leg) × IsInputLeg l × (key l ≡ b)
  burst_leg b low =
      let (l, i, e) = graph.leg_of L out chart sets names b low in
      (l, i, ap (λ x. position_or_len (same_set x) (bursts_of L)) e ∙ first_place (bursts_of L) bursts_apart b low)

  burst_in : (l : Leg) (a : ℕ) → IsInputLeg l → Has l a → Among a (g.symbols (key l))
  burst_in l a i h = graph.in_times L out chart sets names a (g.symbols (key l)) (omega (arith, graph.times_burst L out chart sets names l i a, times_from_in a (symbols l.marks) h))

  burst_of : (l : Leg) (a : ℕ) → IsInputLeg l → Among a (g.symbols (key l)) → Has l a
  burst_of l a i h = among_in a (symbols l.marks) (graph.in_times L out chart sets names a (symbols l.marks)
      (omega (arith, graph.times_burst L out chart sets names l i a, times_from_in a (g.symbols (key l)) (among_in a (g.symbols (key l)) h))))

  symbol_of : (b a : ℕ) → Among a (g.symbols b) → (l : Leg) × IsInputLeg l × Has l a × (key l ≡ b)
  symbol_of b a h = elim (cases_lt b (length (bursts_of L))) [
    | inl low ↦
        let (l, i, e) = burst_leg b low in
        (l, i, burst_of l a i (subst (λ b. Among a (g.symbols b)) (sym e) h), e)
    | inr past ↦ absurd (subst (Among a) (graph.symbols_past L out chart sets names b past) h)
  ]

  pub drawn : Drawn L out g key home no wait
  drawn = record {
    home_is = λ l a i h. (homes_known L sets).homes l a i.0 i.1 h;
    starts = λ m i. graph.starts_at L out chart sets names m i;
    start_act = λ n h. graph.start_leg L out chart sets names n h;
    opens = opens_at;
    start_wait = wait_start;
    in_burst = burst_in;
    of_burst = burst_of;
    of_symbols = symbol_of;
    same_part = same_parts;
    in_rows = λ l i. rows_in l i (g.row_part (wait l.from)) refl;
    of_rows = λ i x a.
        let (k, b, e) = row_cross i x a in
        let (l, j, z, p) = of_meet i k b in
        (l, j, ap (λ (c : Crossing). c.wait) z ∙ e, p);
    in_columns = λ l i. columns_in l i (g.column_part (key l)) (same_parts l i);
    of_columns = λ i b a.
        let (k, c, e) = column_cross i b a in
        let (l, j, z, p) = of_meet i k c in
        (l, j, ap (λ (c : Crossing). c.burst) z ∙ e, sym (same_parts l j) ∙ p);
    in_meets = meet_in;
    of_meets = of_meet;
    row_sum = row_sum_is;
    column_sum = column_sum_is;
    entry = entry_in;
    of_entries = of_entry;
    entry_sum = entry_sum_is;
    put_out = λ m a i h. subst (Among a) (sym (graph.outs_is L out chart sets names m i)) (in_among a (symbols m.marks) h);
    of_outs = λ n a h. graph.of_outs_at L out chart sets names n a h;
    exit_in = exit_of;
    of_exits = of_exit;
    back_in = return_in;
    of_returns = of_return;
    return_sum = return_sum_is;
    giver = λ m a i h. graph.giver_at L out chart sets names m a i h;
    of_givers = λ n a h. let (k, t) = filter_among (λ n. is_in a (g.outs n)) (range_with_len 0 g.acts) n h in graph.of_outs_at L out chart sets names n a (in_among a (g.outs n) t);
    given_sum = λ a o c. graph.given_by L out chart sets names a o c;
  }

  -- ---- lists without repetition

  crosses_once : Distinct crosses
  crosses_once = distinct_in_order (map (cross L) (inputs_of L)) (mapped (inputs_of L) (λ l a. let (b, t) = filter_one takes L l a in (b, was_not (is_act l) t)) (places_once takes L chart.increase))
    where
      mapped : (xs : List Leg) → ((l : Leg) → Member xs l → IsInputLeg l) → Distinct (map (λ (l : Leg). l.place) xs) → Distinct (map (cross L) xs)
      mapped [] h d = tt
      mapped (x ∷ xs) h d = (
        (λ a.
            let (l, b, e) = among_map (cross L) xs (cross L x) a in
            let m : Member xs l = graph.among_one xs l b in
            let same : x ≡ l = one_cross L out key home no wait numbers x l (h x (inl refl)) (h l (inr m))
            (let w : wait x.from ≡ wait l.from = ap (λ (c : Crossing). c.wait) e in let k : key x ≡ key l = ap (λ (c : Crossing). c.burst) e in let n : no x.to ≡ no l.to = ap (λ (c : Crossing). c.act) e in cc) in
            d.0 (subst (λ y. Among y (map (λ (l : Leg). l.place) xs)) (ap (λ (y : Leg). y.place) (sym same)) (map_among (λ (l : Leg). l.place) xs l b))),
        mapped xs (λ l a. h l (inr a)) d.1,
      )

  part_once : (i : ℕ) → Distinct (g.meets i)
  part_once i = distinct_filter (in_part i) crosses crosses_once

  range_once : (k : ℕ) → Distinct (range_with_len 0 k)
  range_once k = subst Distinct (id_map (range_with_len 0 k)) (distinct_row (λ i. i) (λ i j e. e) k)

  pub listed : Listed L out g key home no wait
  listed = record {
    key_low = key_low;
    low_key = burst_leg;
    no_low = no_low;
    low_no = λ n low. let (m, i, e, k) = graph.nth_act L out chart sets names (λ (l : Leg). l.place) 0 n (omega (arith, low, graph.acts_long L out chart sets names)) in (m, i, e);
    wait_low = wait_low;
    low_wait = wait_leg;
    has_low = λ l a i h. (known a).1 (l, i, h);
    low_has = λ a low. (known a).0 low;
    in_parts = λ l i. among_filter (λ n. list_any (λ (p : ℕ × ℕ). nat_eq (label (length (wait_points L)) pairs p.0) n) pairs) (range_with_len 0 (length (wait_points L))) (g.row_part (wait l.from))
        (low_in (length (wait_points L)) (g.row_part (wait l.from)) (omega (arith, label_low (length (wait_points L)) pairs (wait l.from), wait_low l i)))
        (among_any (λ (p : ℕ × ℕ). nat_eq (label (length (wait_points L)) pairs p.0) (g.row_part (wait l.from))) pairs (pair (cross L l)) (map_among pair crosses (cross L l) (cross_in l i))
        (eq-eqb (g.row_part (wait l.from)) (g.row_part (wait l.from)) refl));
    of_parts = λ i a.
        let (b, t) = filter_among (λ n. list_any (λ (p : ℕ × ℕ). nat_eq (label (length (wait_points L)) pairs p.0) n) pairs) (range_with_len 0 (length (wait_points L))) i a in
        let (p, c, e) = any_among (λ (p : ℕ × ℕ). nat_eq (label (length (wait_points L)) pairs p.0) i) pairs t in
        let (k, d, f) = among_map pair crosses p c in
        let (l, j, z) = of_cross k d in
        (l, j, ap (λ (c : Crossing). g.row_part c.wait) z ∙ ap (λ (q : ℕ × ℕ). g.row_part q.0) (sym f) ∙ eqb-true (g.row_part p.0) i e);
    symbols_once = λ b. elim (cases_lt b (length (bursts_of L))) [
      | inl low ↦
          let (l, i, e) = graph.symbols_at L out chart sets names b low in
          subst Distinct (sym e) (once_distinct (symbols l.marks) (λ a. chart.few l a i.0))
      | inr past ↦ subst Distinct (sym (graph.symbols_past L out chart sets names b past)) tt
    ];
    entries_once = λ n. distinct_filter (λ k. nat_eq k.act n) crosses crosses_once;
    outs_once = λ n. elim (cases_lt n (length (acts_of L))) [
      | inl low ↦
          let (m, i, e, k) = graph.nth_act L out chart sets names (λ (l : Leg). l.place) 0 n low in
          subst Distinct (sym (ap g.outs (sym e) ∙ graph.outs_is L out chart sets names m i)) (once_distinct (symbols m.marks) (λ a. chart.few m a i.0))
      | inr past ↦ subst Distinct (sym (graph.outs_past L out chart sets names n past)) tt
    ];
    exits_once = λ n. exit_once (get_or (map (λ (y : Act). y.exit) (map (act L) (acts_of L))) n None);
    returns_once = λ x. distinct_filter (λ n. is_in x (g.exits n)) (range_with_len 0 g.acts) (range_once g.acts);
    givers_once = λ a. distinct_filter (λ n. is_in a (g.outs n)) (range_with_len 0 g.acts) (range_once g.acts);
    parts_once = distinct_filter (λ n. list_any (λ (p : ℕ × ℕ). nat_eq (label (length (wait_points L)) pairs p.0) n) pairs) (range_with_len 0 (length (wait_points L))) (range_once (length (wait_points L)));
    rows_once = λ i. distinct_filter (has_row (map pair (g.meets i))) (range_with_len 0 (length (wait_points L))) (range_once (length (wait_points L)));
    columns_once = λ i. distinct_filter (has_column (map pair (g.meets i))) (range_with_len 0 (length (bursts_of L))) (range_once (length (bursts_of L)));
    meets_once = part_once;
    entered = λ m i e. elim (reached m i.0) [
      | inl z ↦ absurd (omega (arith, graph.starts_at L out chart sets names m i, one_same m.from 1 z, none (g.begins (no m.from)) e))
      | inr (l, a, to) ↦ (l, enters L out key home no wait numbers m l i a to, ap no to)
    ];
    returned = λ l i e. elim (reached l i.0) [
      | inl z ↦ absurd (omega (arith, opens_at l i, one_same l.from 1 z, none (g.opens (wait l.from)) e))
      | inr (m, a, to) ↦ (m, leaves L out key home no wait numbers l m i a to, to)
    ];
  }
    where
      none : (b : Bool) → b ≡ false → ◌≡◌ {A = ℕ} (if b then 1 else 0) 0
      none true e = absurd (true≢false e)
      none false e = refl

  -- ---- parts

  row_place : (i : ℕ) (k : Crossing) → Among k (g.meets i)
      → (how_many_below k.wait (has_row (map pair (g.meets i))) < length (g.rows i)) × (get_or (g.rows i) (how_many_below k.wait (has_row (map pair (g.meets i)))) 0 ≡ k.wait)
  row_place i k a =
      let (l, j, e, p) = of_meet i k a in
      let low : k.wait < length (wait_points L) = omega (arith, wait_low l j, ap (λ (c : Crossing). c.wait) e) in
      place_below (has_row (map pair (g.meets i))) (length (wait_points L)) k.wait low (has_row_of i k a)

  column_place : (i : ℕ) (k : Crossing) → Among k (g.meets i)
      → (how_many_below k.burst (has_column (map pair (g.meets i))) < length (g.columns i)) × (get_or (g.columns i) (how_many_below k.burst (has_column (map pair (g.meets i)))) 0 ≡ k.burst)
  column_place i k a =
      let (l, j, e, p) = of_meet i k a in
      let low : k.burst < length (bursts_of L) = omega (arith, key_low l j, ap (λ (c : Crossing). c.burst) e) in
      place_below (has_column (map pair (g.meets i))) (length (bursts_of L)) k.burst low (has_column_of i k a)

  local_is : (i : ℕ) → local_part (map pair (g.meets i)) ≡ map (λ k. local_crossing (map pair (g.meets i)) (pair k)) (g.meets i)
  local_is i = map_two (local_crossing (map pair (g.meets i))) pair (g.meets i)

  -- crossings of one row and one column are one
  one_meet : (i : ℕ) (a b : Crossing) → Among a (g.meets i) → Among b (g.meets i) → a.wait ≡ b.wait → a.burst ≡ b.burst → a ≡ b
  one_meet i a b x y e f =
      let (l, j, z, p) = of_meet i a x in
      let (k, q, w, r) = of_meet i b y in
      let from : l.from ≡ k.from = numbers.one_wait l k j.0 q.0 j.1 q.1 (ap (λ (c : Crossing). c.wait) z ∙ e ∙ ap (λ (c : Crossing). c.wait) (sym w)) in
      let same : l ≡ k = one_leg L out key home no wait numbers l k j q from (ap (λ (c : Crossing). c.burst) z ∙ f ∙ ap (λ (c : Crossing). c.burst) (sym w)) in
      sym z ∙ ap (cross L) same ∙ w

  some_meet : (i : ℕ) → Among i g.parts → (k : Crossing) × Among k (g.meets i)
  some_meet i a =
      let (l, j, e) = listed.of_parts i a in
      (cross L l, subst (λ i. Among (cross L l) (g.meets i)) e (meet_in l j))

  pub parted : (i : ℕ) → Among i g.parts → IsPart (g.rows i) (g.columns i) (g.meets i)
  parted i part =
      let (k, a) = some_meet i part in record {
        shape = record {
          some_row = omega (arith, (row_place i k a).0);
          some_column = omega (arith, (column_place i k a).0);
          rising = ap is_rising (local_is i)
              ∙ local_rises (map pair (g.meets i)) (g.meets i) (sorted_filter (in_part i) crosses (sorted_in_order (map (cross L) (inputs_of L)))) (part_once i) (one_meet i)
              (λ k b. (has_row_of i k b, has_column_of i k b));
          within = ap (list_all (is_within (length (g.rows i)) (length (g.columns i)))) (local_is i)
              ∙ all_mapped (is_within (length (g.rows i)) (length (g.columns i))) (λ k. local_crossing (map pair (g.meets i)) (pair k)) (g.meets i)
              (λ k b. both_and (nat_lt (how_many_below k.wait (has_row (map pair (g.meets i)))) (length (g.rows i))) (nat_lt (how_many_below k.burst (has_column (map pair (g.meets i)))) (length (g.columns i)))
              (lt-ltb (how_many_below k.wait (has_row (map pair (g.meets i)))) (length (g.rows i)) (row_place i k b).0)
              (lt-ltb (how_many_below k.burst (has_column (map pair (g.meets i)))) (length (g.columns i)) (column_place i k b).0));
          each_row = λ j low.
              let (n, b, e) = row_cross i (get_or (g.rows i) j 0) (at_among 0 (g.rows i) j low) in
              let same : how_many_below n.wait (has_row (map pair (g.meets i))) ≡ j = distinct_at 0 (g.rows i) (listed.rows_once i) (how_many_below n.wait (has_row (map pair (g.meets i)))) j (row_place i n b).0 low
              ((row_place i n b).1 ∙ e) in
              among_any (λ (p : ℕ × ℕ). nat_eq p.0 j) (local_part (map pair (g.meets i))) (local_crossing (map pair (g.meets i)) (pair n)) (local_among i n b)
              (eq-eqb (how_many_below n.wait (has_row (map pair (g.meets i)))) j same);
          each_column = λ j low.
              let (n, b, e) = column_cross i (get_or (g.columns i) j 0) (at_among 0 (g.columns i) j low) in
              let same : how_many_below n.burst (has_column (map pair (g.meets i))) ≡ j = distinct_at 0 (g.columns i) (listed.columns_once i) (how_many_below n.burst (has_column (map pair (g.meets i)))) j (column_place i n b).0 low
              ((column_place i n b).1 ∙ e) in
              among_any (λ (p : ℕ × ℕ). nat_eq p.1 j) (local_part (map pair (g.meets i))) (local_crossing (map pair (g.meets i)) (pair n)) (local_among i n b)
              (eq-eqb (how_many_below n.burst (has_column (map pair (g.meets i)))) j same);
        };
        row_low = λ k b. (row_place i k b).0;
        row_is = λ k b. (row_place i k b).1;
        column_low = λ k b. (column_place i k b).0;
        column_is = λ k b. (column_place i k b).1;
        rows_once = listed.rows_once i;
        columns_once = listed.columns_once i;
        rows_of = row_cross i;
        columns_of = column_cross i;
      }
    where
      local_among : (i : ℕ) (n : Crossing) → Among n (g.meets i) → Among (local_crossing (map pair (g.meets i)) (pair n)) (local_part (map pair (g.meets i)))
      local_among i n b = map_among (local_crossing (map pair (g.meets i))) (map pair (g.meets i)) (pair n) (map_among pair (g.meets i) n b)
