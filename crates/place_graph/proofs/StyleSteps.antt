-- What the style of a graph says of the legs.
use Rattle.std.proofs.Common.{◌≡◌, ◌⊎◌, inl, inr, ⊎_elim, ℕ, zero, suc, ◌+◌, ◌/◌, ◌%◌, ◌<◌, ◌≤◌, Bool, true, false, true≢false, cond, ◌||◌, ◌&&◌, nat_eq, List, [], ◌∷◌, length, map, IsTrue, refl, sym, ap, ◌∙◌, subst, arith, if◌then◌else◌, Option, Some, None, eqb-true}
use Rattle.std.specs.Prelude.{not, is_some, count_ones}
use Rattle.std.specs.List.{list_any}
use Rattle.std.specs.Int.{is_power_of_two}
use Rattle.std.proofs.lemmas.Bool.{cases_Bool, and_parts}
use Rattle.std.proofs.lemmas.Nat.{ones_cat, ones_le_self, zero_from_ones, div-add-mod'}
use Rattle.cmd_tree.specs.declared.tree.Proc.{Proc}
use Rattle.cmd_tree.specs.Limits.{IsProc}
use Rattle.cmd_tree.specs.Lists.{is_in}
use Rattle.process_laws.specs.Shape.{IsFair}
use Rattle.place_graph.specs.declared.leg.Leg.{Leg}
use Rattle.place_graph.specs.declared.wait_graph.WaitGraph.{WaitGraph}
use Rattle.place_graph.specs.declared.wait_graph.Cross.{Cross}
use Rattle.place_graph.specs.declared.wait_graph.Act.{Act}
use Rattle.place_graph.specs.declared.wait_graph.Start.TheVariants as start
use Rattle.place_graph.specs.declared.styles.SplitStyle.TheVariants.{OneWait, Rounds, Token}
use Rattle.place_graph.specs.Points.{Among, legs}
use Rattle.place_graph.specs.Graph.{is_act, acts_of, inputs_of, wait_points, act_points, index_of, number_at, bursts_of, cross, act, is_before, put, in_order, start_at, numbered, graph_of}
use Rattle.place_graph.specs.Style.{is_exit, has_entry, one_entry_each, in_rounds, style_of}
use Rattle.place_graph.specs.StyleLegs.{AtOneWait, doubled, InRounds}
use Rattle.place_graph.specs.Drawable.{AreDirections}
use Rattle.place_graph.specs.Chart.{LeadsOn, sum_where}
use Rattle.place_graph.proofs.Positions.{found_at}
use Rattle.place_graph.proofs.Charted.{leg_leads_on, start_leg}
use Rattle.place_graph.proofs.Listed.{index_one, in_points, one_from_any, map_one, filter_one, in_order_one, same_number, burst_below}

-- ---- what the tests of a style tell

style_one : (g : WaitGraph) → style_of g ≡ OneWait → g.waits ≡ 1
style_one g h = by (nat_eq g.waits 1) (in_rounds g) refl h
  where
    by : (a b : Bool) → nat_eq g.waits 1 ≡ a
        → (if a then OneWait else (if b then Rounds g.waits else Token)) ≡ OneWait → g.waits ≡ 1
    by true b e k = eqb-true g.waits 1 e
    by false true e k = absurd (cc)
    by false false e k = absurd (cc)

style_rounds : (g : WaitGraph) (k : ℕ) → style_of g ≡ Rounds k → (in_rounds g ≡ true) × (g.waits ≡ k)
style_rounds g k h = by (nat_eq g.waits 1) (in_rounds g) refl h
  where
    by : (a b : Bool) → in_rounds g ≡ b
        → (if a then OneWait else (if b then Rounds g.waits else Token)) ≡ Rounds k
        → (in_rounds g ≡ true) × (g.waits ≡ k)
    by true b e k = absurd (cc)
    by false true e k = (e, cc)
    by false false e k = absurd (cc)

-- ---- one wait

only : (x y : ℕ) (xs : List ℕ) → length xs ≡ 1 → is_in x xs ≡ true → is_in y xs ≡ true → x ≡ y
only x y [] n h k = absurd (true≢false (sym h))
only x y (z ∷ []) n h k = eqb-true x z (one (nat_eq x z) h) ∙ sym (eqb-true y z (one (nat_eq y z) k))
  where
    one : (b : Bool) → (b || false) ≡ true → b ≡ true
    one true e = refl
    one false e = e
only x y (z ∷ w ∷ xs) n h k = absurd (omega (arith, n))

pub at_one_wait : (p : Proc) → style_of (graph_of p) ≡ OneWait → AtOneWait (legs p)
at_one_wait p h l m a b s t = only l.from m.from (wait_points (legs p)) (style_one (graph_of p) h)
    (in_points (λ x. not (is_act x)) (legs p) l a (ap not s))
    (in_points (λ x. not (is_act x)) (legs p) m b (ap not t))

-- ---- powers of two

twice : (n x : ℕ) → doubled n (x + x) ≡ doubled n x + doubled n x
twice zero x = refl
twice (suc n) x = twice n (x + x)

abbrev Power : ℕ → Type 0
Power n = (e : ℕ) × (n ≡ doubled e 1)

ones_half : (n : ℕ) → count_ones n ≡ count_ones (n / 2) + count_ones (n % 2)
ones_half n = ap count_ones (sym (div-add-mod' n 2)) ∙ ones_cat 1 (n / 2) (n % 2) (omega arith)

zero_ones : count_ones 0 ≡ 0
zero_ones = omega (arith, ones_le_self 0)

one_ones : count_ones 1 ≡ 1
one_ones = by (count_ones 1) refl
  where
    by : (n : ℕ) → count_ones 1 ≡ n → count_ones 1 ≡ 1
    by zero e = absurd (omega (arith, zero_from_ones 1 e))
    by (suc n) e = omega (arith, e, ones_le_self 1)

-- the last bit is 0 or 1
bit_cases : (r : ℕ) → r < 2 → (r ≡ 0) ⊎ (r ≡ 1)
bit_cases zero h = inl refl
bit_cases (suc zero) h = inr refl
bit_cases (suc (suc r)) h = absurd (omega (arith, h))

power : (d n : ℕ) → n ≤ d → count_ones n ≡ 1 → Power n
power zero n h k =
    let none : n ≡ 0 = omega (arith, h) in
    absurd (omega (arith, k, ap count_ones none, zero_ones))
power (suc d) n h k = ⊎_elim
    (λ e.
    let half : count_ones (n / 2) ≡ 1 = omega (arith, k, ones_half n, ap count_ones e, zero_ones) in
    let w = power d (n / 2) (omega (arith, h)) half in
    (suc w.0, omega (arith, e, w.1, twice w.0 1)))
    (λ e.
    let none : count_ones (n / 2) ≡ 0 = omega (arith, k, ones_half n, ap count_ones e, one_ones) in
    (0, omega (arith, e, zero_from_ones (n / 2) none)))
    (bit_cases (n % 2) (omega arith))

-- ---- how many crossings

length_put : (c : Cross) (ds : List Cross) → length (put c ds) ≡ suc (length ds)
length_put c [] = refl
length_put c (d ∷ ds) = by (is_before d c) (length_put c ds)
  where
    by : (b : Bool) → length (put c ds) ≡ suc (length ds)
        → length (if b then d ∷ put c ds else c ∷ d ∷ ds) ≡ suc (suc (length ds))
    by true e = ap suc e
    by false e = refl

length_in_order : (cs : List Cross) → length (in_order cs) ≡ length cs
length_in_order [] = refl
length_in_order (c ∷ cs) = length_put c (in_order cs) ∙ ap suc (length_in_order cs)

length_inputs : (f : Leg → Cross) (L : List Leg)
    → sum_where L (λ l. not (is_act l)) (λ l. 1) ≡ length (map f (inputs_of L))
length_inputs f [] = refl
length_inputs f (l ∷ L) = by (not (is_act l)) (length_inputs f L)
  where
    by : (b : Bool) → sum_where L (λ l. not (is_act l)) (λ l. 1) ≡ length (map f (inputs_of L))
        → (if b then 1 else 0) + sum_where L (λ l. not (is_act l)) (λ l. 1) ≡ length
        (map f (cond b (l ∷ inputs_of L) (inputs_of L)))
    by true e = omega (arith, e)
    by false e = omega (arith, e)

-- ---- rounds

module _ (L : List Leg) (on : (l : Leg) → Among L l → LeadsOn L l) where
  -- a leg leads back to the begin
  record Back : Type 0 where
    pub leg : Leg
    pub among : Among L leg
    pub to_begin : leg.to ≡ 1

  back_to_act : is_in 1 (act_points L) ≡ true
      → list_any (λ c. nat_eq c.act (index_of 1 (act_points L)))
      (in_order (map (cross L) (inputs_of L))) ≡ true → Back
  back_to_act h k =
      let w = one_from_any (λ (c : Cross). nat_eq c.act (index_of 1 (act_points L)))
      (in_order (map (cross L) (inputs_of L))) k in
      let m = map_one (cross L) (inputs_of L) w.0 (in_order_one (map (cross L) (inputs_of L)) w.0 w.1) in
      let f = filter_one (λ l. not (is_act l)) L m.0 m.1 in
      let next = on m.0 f.0 in
      let there : is_in m.0.to (act_points L) ≡ true = subst (λ x. is_in x (act_points L) ≡ true) next.from
      (in_points is_act L next.next next.among (next.turns ∙ f.1)) in
      record {
        leg = m.0;
        among = f.0;
        to_begin = index_one m.0.to 1 (act_points L) there h
            (ap (λ (y : Cross). y.act) m.2 ∙ eqb-true w.0.act (index_of 1 (act_points L)) w.2);
      }

  exit_is : (w : ℕ) (o : Option ℕ) → is_exit w o ≡ true → o ≡ Some w
  exit_is w None h = absurd (true≢false (sym h))
  exit_is w (Some x) h = ap Some (eqb-true x w h)

  back_to_wait : is_in 1 (wait_points L) ≡ true → list_any (λ y. is_exit (index_of 1 (wait_points L)) y.exit)
      (map (act L) (acts_of L)) ≡ true → Back
  back_to_wait h k =
      let n = index_of 1 (wait_points L) in
      let w = one_from_any (λ (y : Act). is_exit n y.exit) (map (act L) (acts_of L)) k in
      let m = map_one (act L) (acts_of L) w.0 w.1 in
      let f = filter_one is_act L m.0 m.1 in
      let exit : number_at m.0.to (wait_points L) ≡ Some n = ap (λ (y : Act). y.exit) m.2
      ∙ exit_is n w.0.exit w.2 in
      let there = found_at (nat_eq m.0.to) (wait_points L) n exit in
      record { leg = m.0; among = f.0; to_begin = index_one m.0.to 1 (wait_points L) there.0 h there.1 }

  back : (l : Leg) → Among L l → l.from ≡ 1
      → has_entry (start_at (act_points L) (wait_points L)) (map (act L) (acts_of L))
      (in_order (map (cross L) (inputs_of L))) ≡ true → Back
  back l a e h = by (is_in 1 (act_points L)) refl h
    where
      by : (b : Bool) → is_in 1 (act_points L) ≡ b
          → has_entry
          (if b then start.Act (index_of 1 (act_points L)) else start.Wait (index_of 1 (wait_points L)))
          (map (act L) (acts_of L)) (in_order (map (cross L) (inputs_of L))) ≡ true → Back
      by true z k = back_to_act z k
      by false z k = back_to_wait (⊎_elim
          (λ t. absurd
          (true≢false (sym (subst (λ x. is_in x (act_points L) ≡ true) e (in_points is_act L l a t))
          ∙ z)))
          (λ t. subst (λ x. is_in x (wait_points L) ≡ true) e
          (in_points (λ x. not (is_act x)) L l a (ap not t)))
          (cases_Bool (is_act l))) k

  rounds_are : (l : Leg) → Among L l → l.from ≡ 1 → (k : ℕ) → style_of (numbered L) ≡ Rounds k → InRounds L k
  rounds_are l a e k h =
      let g = numbered L in
      let s = style_rounds g k h in
      let b0 = nat_eq (length g.bursts) 1 in
      let b1 = is_power_of_two g.waits in
      let b2 = nat_eq (length g.crosses) g.waits in
      let b3 = one_entry_each (length g.acts) g.crosses in
      let b4 = has_entry g.start g.acts g.crosses in
      let t4 = and_parts (b0 && b1 && b2 && b3) b4 s.0 in
      let t3 = and_parts (b0 && b1 && b2) b3 t4.0 in
      let t2 = and_parts (b0 && b1) b2 t3.0 in
      let t1 = and_parts b0 b1 t2.0 in
      let bursts : length (bursts_of L) ≡ 1 = eqb-true (length g.bursts) 1 t1.0 in
      let crosses : length (in_order (map (cross L) (inputs_of L))) ≡ g.waits = eqb-true (length g.crosses)
      g.waits t2.1 in
      let w = power g.waits g.waits (omega arith) (eqb-true (count_ones g.waits) 1 t1.1) in
      let r = back l a e t4.1 in
      record {
        depth = w.0;
        number = sym s.1 ∙ w.1;
        many = length_inputs (cross L) L ∙ sym (length_in_order (map (cross L) (inputs_of L))) ∙ crosses
            ∙ s.1;
        sole = λ m n c u v x y has. same_number L m n u v x y
            (omega (arith, bursts, burst_below L m u x, burst_below L n v y)) c has;
        back = r.leg;
        among = r.among;
        to_begin = r.to_begin;
      }

pub in_rounds_are : (out : ℕ → Bool) (p : Proc) → IsProc p → IsTrue (is_some p.body) → IsFair out p
    → AreDirections out p → (k : ℕ) → style_of (graph_of p) ≡ Rounds k → InRounds (legs p) k
in_rounds_are out p h some f agree k e =
    let l = start_leg out p h in
    rounds_are (legs p) (leg_leads_on out p h f agree some) l.0 l.1 l.2 k e
