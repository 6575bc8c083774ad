-- The network of rounds from its web: which wires are left out, and what stands in the chart.
use Rattle.std.specs.Prelude.{if◌then◌else◌, not, ◌&&◌, ◌||◌, nat_eq}
use Rattle.std.proofs.Common.{eq-eqb, ne_eqb, eqb-true, ◌≡◌, ◌↔◌, ℕ, zero, suc, ◌+◌, ◌<◌, ◌≤◌, ◌^◌, Bool, true, false, true≢false, List, [], ◌∷◌, ◌++◌, length, ◌⊎◌, inl, inr, refl, sym, ap, subst, ◌∙◌, arith}
use Rattle.std.specs.List.{range_with_len}
use Rattle.std.proofs.lemmas.Bool.{cases_eq, lt-ltb}
use Rattle.cmd_tree.specs.Lists.{is_in}
use Rattle.cmd_tree.specs.Rounds.{tally, naught}
use Rattle.basic_kinds.proofs.Totals.{total_at}
use Rattle.net_core.specs.Specs.{IsFormed, May}
use Rattle.net_laws.proofs.Paths.{Hop, Path as Way, here, hop}
use Rattle.net_laws.proofs.Among.{Among, Distinct}
use Rattle.plain_split.specs.RoundsNet.{Path, Top, Odd, Even, depth, pow, Wire, Sym, To, Go, Put, Out, Name, Join, Tog, Gate, Spread, Shows}
use Rattle.plain_split.specs.RoundsChart.{Parts, is_single, sole, entry, act_at, givers, begins_process, is_kept, back_go, back_put, back, on_put, on_go, on, count, is_out}
use Rattle.plain_split.proofs.RoundsPlan.{Plan, when, sum_over, Sane}
use Rattle.plain_split.proofs.RoundsWeb.{same_wire, driver, receiver, to_gate, to_tog, There, takes_to, Rule, web, clean}
use Rattle.plain_split.proofs.RoundsRing.{opened_by}
use Rattle.plain_split.proofs.RoundsLists.{filter_among, among_filter}

-- What the parts of a process in rounds are, and their traces.
pub record Fine (r : Parts) (T : List ℕ → Type 0) : Type 0 where
  pub some_levels : 0 < r.levels
  pub burst_some : 0 < length r.burst
  pub outs_some : (y : ℕ) → y < pow r.levels → 0 < length (r.outs y)
  pub burst_in : (a : ℕ) → is_in a r.burst ≡ true → (a < count r) × (is_out r a ≡ false)
  pub outs_in : (y a : ℕ) → y < pow r.levels → is_in a (r.outs y) ≡ true → (a < count r) × (is_out r a ≡ true)
  pub covers_in : (a : ℕ) → a < count r → is_out r a ≡ false → is_in a r.burst ≡ true
  pub covers_out : (a : ℕ) → a < count r → is_out r a ≡ true → (y : ℕ) × (y < pow r.levels) × (is_in a (r.outs y) ≡ true)
  pub burst_once : Distinct r.burst
  pub outs_once : (y : ℕ) → y < pow r.levels → Distinct (r.outs y)
  pub burst_narrow : length r.burst < 2 ^ 27
  pub outs_narrow : (y : ℕ) → y < pow r.levels → length (r.outs y) < 2 ^ 27
  pub acts_few : pow r.levels < 2 ^ 27
  pub formed : IsFormed r.spec
  pub traces : (t : List ℕ) → May r.spec t ↔ T t
  pub empty : T []
  pub closed : (u : List ℕ) (a : ℕ) → T (u ++ a ∷ []) → T u
  pub known : (u : List ℕ) (a : ℕ) → T (u ++ a ∷ []) → a < count r

abbrev pub plan_of : Parts → (List ℕ → Type 0) → Plan
plan_of r T = record {
  acts = pow r.levels;
  levels = r.levels;
  takes = λ a. is_in a r.burst;
  gives = λ y a. is_in a (r.outs y);
  out = is_out r;
  opened = opened_by r.opens;
  act_at = act_at r;
  entry = entry r;
  traces = T;
}

-- ---- members and single lists

pub in_among : (a : ℕ) (xs : List ℕ) → is_in a xs ≡ true → Among a xs
in_among a [] h = absurd (true≢false (sym h))
in_among a (x ∷ xs) h = at (nat_eq a x) refl h (in_among a xs)
  where
    at : (b : Bool) → nat_eq a x ≡ b → (b || is_in a xs) ≡ true → (is_in a xs ≡ true → Among a xs) → (a ≡ x) ⊎ Among a xs
    at true e i f = inl (eqb-true a x e)
    at false e i f = inr (f i)

pub among_in : (a : ℕ) (xs : List ℕ) → Among a xs → is_in a xs ≡ true
among_in a [] h = absurd h
among_in a (x ∷ xs) (inl e) = ap (λ b. b || is_in a xs) (eq-eqb a x e)
among_in a (x ∷ xs) (inr h) = at (nat_eq a x) (among_in a xs h)
  where
    at : (b : Bool) → is_in a xs ≡ true → (b || is_in a xs) ≡ true
    at true e = refl
    at false e = e

pub single_one : (xs : List ℕ) (a : ℕ) → is_single xs ≡ true → Among a xs → a ≡ sole xs
single_one [] a h i = absurd i
single_one (x ∷ []) a h (inl e) = e
single_one (x ∷ []) a h (inr i) = absurd i
single_one (x ∷ y ∷ xs) a h i = absurd (true≢false (sym h))

pub several : (xs : List ℕ) → is_single xs ≡ false → 0 < length xs → 2 ≤ length xs
several [] h some = absurd (omega arith)
several (x ∷ []) h some = absurd (true≢false h)
several (x ∷ y ∷ xs) h some = omega arith

pub sole_in : (xs : List ℕ) → 0 < length xs → Among (sole xs) xs
sole_in [] h = absurd (omega arith)
sole_in (x ∷ xs) h = inl refl

module _ (r : Parts) (T : List ℕ → Type 0) (fine : Fine r T) (sane : Sane (plan_of r T)) where
  abbrev g : Plan
  g = plan_of r T

  abbrev pub Here : Wire → Type 0
  Here w = There (plan_of r T) w

  abbrev pub Kept : Name → Type 0
  Kept n = is_kept r n ≡ true

  pub givers_in : (a y : ℕ) → Among y (givers r a) → (y < pow r.levels) × (is_in a (r.outs y) ≡ true)
  givers_in a y h =
      let (b, gives) = filter_among (λ y. is_in a (r.outs y)) (range_with_len 0 (pow r.levels)) y h in
      (range_low (pow r.levels) y b, gives)
    where
      range_from : (b k x : ℕ) → Among x (range_with_len b k) → x < b + k
      range_from b zero x i = absurd i
      range_from b (suc k) x (inl e) = omega arith
      range_from b (suc k) x (inr i) = omega (arith, range_from (b + 1) k x i)

      range_low : (k x : ℕ) → Among x (range_with_len 0 k) → x < k
      range_low k x i = omega (arith, range_from 0 k x i)

  pub range_in : (k x : ℕ) → x < k → Among x (range_with_len 0 k)
  range_in k x low = at 0 k x (omega arith) (omega arith)
    where
      at : (b k x : ℕ) → b ≤ x → x < b + k → Among x (range_with_len b k)
      at b zero x i j = absurd (omega arith)
      at b (suc k) x i j = elim (cases_eq x b) [ inl e ↦ inl e | inr ne ↦ inr (at (b + 1) k x (omega arith) (omega arith)) ]

  pub in_givers : (a y : ℕ) → y < pow r.levels → is_in a (r.outs y) ≡ true → Among y (givers r a)
  in_givers a y low gives = among_filter (λ y. is_in a (r.outs y)) (range_with_len 0 (pow r.levels)) y (range_in (pow r.levels) y low) gives

  -- the driver of a last place is a TOGGLE
  leaf_driven : (p : Path) → depth p ≡ r.levels → Kept (driver (To p))
  leaf_driven Top e = absurd (omega (arith, fine.some_levels))
  leaf_driven (Odd p) e = lt-ltb (depth p) r.levels (omega arith)
  leaf_driven (Even p) e = lt-ltb (depth p) r.levels (omega arith)

  leaf_back : (p : Path) → depth p ≡ r.levels → back r (To p) ≡ To p
  leaf_back Top e = absurd (omega (arith, fine.some_levels))
  leaf_back (Odd p) e = refl
  leaf_back (Even p) e = refl

  -- ---- back to the first wire

  go_back : (y : ℕ) → y < pow r.levels → Here (back_go r y) × Kept (driver (back_go r y)) × (back r (back_go r y) ≡ back_go r y)
  go_back y low = at (begins_process r y) refl
    where
      at : (b : Bool) → begins_process r y ≡ b → Here (if b then Go y else To (entry r y)) × Kept (driver (if b then Go y else To (entry r y)))
          × (back r (if b then Go y else To (entry r y)) ≡ (if b then Go y else To (entry r y)))
      at true e = (low, e, rw e refl)
      at false e = let deep = sane.entry_deep y low in (omega arith, leaf_driven (entry r y) deep, leaf_back (entry r y) deep)

  put_back : (y a : ℕ) → y < pow r.levels → is_in a (r.outs y) ≡ true → Here (back_put r y a) × Kept (driver (back_put r y a)) × (back r (back_put r y a) ≡ back_put r y a)
  put_back y a low gives = at (is_single (r.outs y)) refl
    where
      at : (b : Bool) → is_single (r.outs y) ≡ b → Here (if b then back_go r y else Put y a) × Kept (driver (if b then back_go r y else Put y a))
          × (back r (if b then back_go r y else Put y a) ≡ (if b then back_go r y else Put y a))
      at true e = go_back y low
      at false e = ((low, gives), ap not e, rw e refl)

  pub back_is : (w : Wire) → Here w → Here (back r w) × Kept (driver (back r w)) × (back r (back r w) ≡ back r w)
  back_is (Sym a) h = (h, refl, refl)
  back_is (To Top) h = at (is_single r.burst) refl
    where
      at : (b : Bool) → is_single r.burst ≡ b → Here (if b then Sym (sole r.burst) else To Top) × Kept (driver (if b then Sym (sole r.burst) else To Top))
          × (back r (if b then Sym (sole r.burst) else To Top) ≡ (if b then Sym (sole r.burst) else To Top))
      at true e = (among_in (sole r.burst) r.burst (sole_in r.burst fine.burst_some), refl, refl)
      at false e = (h, ap not e, rw e refl)
  back_is (To (Odd p)) h = (h, lt-ltb (depth p) r.levels (omega arith), refl)
  back_is (To (Even p)) h = (h, lt-ltb (depth p) r.levels (omega arith), refl)
  back_is (Go y) h = go_back y h
  back_is (Put y a) h = put_back y a h.0 h.1
  back_is (Out a) (y, low, gives) = at (is_single (givers r a)) refl
    where
      at : (b : Bool) → is_single (givers r a) ≡ b → Here (if b then back_put r (sole (givers r a)) a else Out a) × Kept (driver (if b then back_put r (sole (givers r a)) a else Out a))
          × (back r (if b then back_put r (sole (givers r a)) a else Out a) ≡ (if b then back_put r (sole (givers r a)) a else Out a))
      at true e =
          let z : y ≡ sole (givers r a) = single_one (givers r a) y e (in_givers a y low gives) in
          put_back (sole (givers r a)) a (omega arith) (subst (λ (x : ℕ). is_in a (r.outs x) ≡ true) z gives)
      at false e = ((y, low, gives), ap not e, rw e refl)

  -- a wire whose driver is kept is the first one
  pub back_same : (w : Wire) → Here w → Kept (driver w) → back r w ≡ w
  back_same (Sym a) h k = refl
  back_same (To Top) h k = at (is_single r.burst) k
    where
      at : (b : Bool) → not b ≡ true → (if b then Sym (sole r.burst) else To Top) ≡ To Top
      at true e = absurd (true≢false (sym e))
      at false e = refl
  back_same (To (Odd p)) h k = refl
  back_same (To (Even p)) h k = refl
  back_same (Go y) h k = rw k refl
  back_same (Put y a) h k = at (is_single (r.outs y)) k
    where
      at : (b : Bool) → not b ≡ true → (if b then back_go r y else Put y a) ≡ Put y a
      at true e = absurd (true≢false (sym e))
      at false e = refl
  back_same (Out a) h k = at (is_single (givers r a)) k
    where
      at : (b : Bool) → not b ≡ true → (if b then back_put r (sole (givers r a)) a else Out a) ≡ Out a
      at true e = absurd (true≢false (sym e))
      at false e = refl

  -- ---- on to the last wire

  -- a wire behind the begin of an act
  abbrev pub Late : Wire → Type 0
  Late (Sym a) = ⊥
  Late (To p) = ⊥
  Late (Go y) = Unit {0}
  Late (Put y a) = Unit {0}
  Late (Out a) = Unit {0}

  not_kept : (b : Bool) → not b ≡ false → b ≡ true
  not_kept true e = refl
  not_kept false e = absurd (true≢false e)

  -- what holds of the last wire of a path: it is there and kept, it goes back to the first one, and nodes that are left out lead there
  pub record Last (w z : Wire) : Type 0 where
    pub there : Here z
    pub kept : Kept (receiver (plan_of r T) z)
    pub back_to : back r z ≡ back r w
    pub late : Late w → Late z
    pub way : Way Name Wire (web (plan_of r T)) Kept w z

  last_here : (w : Wire) → Here w → Kept (receiver (plan_of r T) w) → Last w w
  last_here w h k = record { there = h; kept = k; back_to = refl; late = λ x. x; way = here w }

  -- one node that is left out
  last_hop : (w v z : Wire) → Hop Name Wire (web (plan_of r T)) Kept w v → (w ≡ z → ⊥) → back r v ≡ back r w → (Late w → Late v) → Last v z → Last w z
  last_hop w v z h ne b l n = record {
    there = n.there;
    kept = n.kept;
    back_to = n.back_to ∙ b;
    late = λ x. n.late (l x);
    way = hop w v z h ne n.way;
  }

  left_out : (b : Bool) → b ≡ true → not b ≡ true → ⊥
  left_out true e k = true≢false (sym k)
  left_out false e k = true≢false (sym e)

  -- the sum over the acts that give a, where y alone gives it
  only_sum : (y a : ℕ) → y < pow r.levels → is_in a (r.outs y) ≡ true → is_single (givers r a) ≡ true → (f : ℕ → ℕ) → sum_over (plan_of r T) a f ≡ f y
  only_sum y a low gives one f =
      total_at (pow r.levels) (λ z. when (is_in a (r.outs z)) (f z)) y low
      (λ z less ne. none z (is_in a (r.outs z)) refl (λ also. ne (single_one (givers r a) z one (in_givers a z less also) ∙ sym (single_one (givers r a) y one (in_givers a y low gives)))))
      ∙ ap (λ b. when b (f y)) gives
    where
      none : (z : ℕ) (b : Bool) → is_in a (r.outs z) ≡ b → (is_in a (r.outs z) ≡ true → ⊥) → when b (f z) ≡ 0
      none z true e no_more = absurd (no_more e)
      none z false e no_more = refl

  shows_hop : (y a : ℕ) → y < pow r.levels → is_in a (r.outs y) ≡ true → is_single (givers r a) ≡ true → Hop Name Wire (web (plan_of r T)) Kept (Put y a) (Out a)
  shows_hop y a low gives one = record { joins = refl; inner = λ k. left_out (is_single (givers r a)) one k; takes = takes; gives = λ t less. ((y, low, gives), inl (refl, omega (arith, only_sum y a low gives one (λ z. tally same_wire naught t (Put z a))))); passed = passed }
    where
      takes : (t : List Wire) → Rule (plan_of r T) (Shows a) t (Put y a) → tally same_wire naught t (Put y a) ≡ tally same_wire naught t (Out a)
      takes t (h, inl e) = absurd (cc (e.0))
      takes t (h, inr e) = sym (only_sum y a low gives one (λ z. tally same_wire naught t (Put z a))) ∙ e.1

      passed : (t : List Wire) → Rule (plan_of r T) (Shows a) t (Out a) → tally same_wire naught t (Out a) < tally same_wire naught t (Put y a)
      passed t (h, inl e) = omega (arith, e.1, only_sum y a low gives one (λ z. tally same_wire naught t (Put z a)))
      passed t (h, inr e) = absurd (cc (e.0))

  last_put : (y a : ℕ) → y < pow r.levels → is_in a (r.outs y) ≡ true → Last (Put y a) (on_put r y a)
  last_put y a low gives = at (is_single (givers r a)) refl
    where
      at : (b : Bool) → is_single (givers r a) ≡ b → Last (Put y a) (if b then Out a else Put y a)
      at true e =
          let z : y ≡ sole (givers r a) = single_one (givers r a) y e (in_givers a y low gives) in
          let i : back r (Out a) ≡ back_put r y a = rw e (ap (λ (x : ℕ). back_put r x a) (sym z)) in
          last_hop (Put y a) (Out a) (Out a) (shows_hop y a low gives e) (λ q. cc) i (λ x. x) (last_here (Out a) (y, low, gives) refl)
      at false e = last_here (Put y a) (low, gives) (ap not e)

  spread_hop : (y : ℕ) → y < pow r.levels → is_single (r.outs y) ≡ true → Hop Name Wire (web (plan_of r T)) Kept (Go y) (Put y (sole (r.outs y)))
  spread_hop y low one = record {
    joins = refl;
    inner = λ k. left_out (is_single (r.outs y)) one k;
    takes = takes;
    gives = λ t less. ((low, of), inl (refl, less));
    passed = passed;
  }
    where
      of : is_in (sole (r.outs y)) (r.outs y) ≡ true
      of = among_in (sole (r.outs y)) (r.outs y) (sole_in (r.outs y) (fine.outs_some y low))

      takes : (t : List Wire) → Rule (plan_of r T) (Spread y) t (Go y) → tally same_wire naught t (Go y) ≡ tally same_wire naught t (Put y (sole (r.outs y)))
      takes t (h, inl e) = absurd (cc (e.0))
      takes t (h, inr e) = e.1 (sole (r.outs y)) of

      passed : (t : List Wire) → Rule (plan_of r T) (Spread y) t (Put y (sole (r.outs y))) → tally same_wire naught t (Put y (sole (r.outs y))) < tally same_wire naught t (Go y)
      passed t (h, inl e) = e.1
      passed t (h, inr e) = absurd (cc (e.0))

  opened_zero : (y : ℕ) → begins_process r y ≡ false → opened_by r.opens y ≡ 0
  opened_zero y = at r.opens y
    where
      at : (b : Bool) (y : ℕ) → (b && nat_eq y 0) ≡ false → opened_by b y ≡ 0
      at true zero e = absurd (true≢false e)
      at true (suc y) e = refl
      at false y e = refl

  go_other : (b : Bool) (y a v : ℕ) → Go v ≡ (if b then Out a else Put y a) → ⊥
  go_other true y a v e = cc
  go_other false y a v e = cc

  last_go : (y : ℕ) → y < pow r.levels → Last (Go y) (on_go r y)
  last_go y low = at (is_single (r.outs y)) refl
    where
      at : (b : Bool) → is_single (r.outs y) ≡ b → Last (Go y) (if b then on_put r y (sole (r.outs y)) else Go y)
      at true e =
          let a : ℕ = sole (r.outs y) in
          last_hop (Go y) (Put y a) (on_put r y a) (spread_hop y low e) (λ q. go_other (is_single (givers r a)) y a y q) (rw e refl) (λ x. x)
          (last_put y a low (among_in a (r.outs y) (sole_in (r.outs y) (fine.outs_some y low))))
      at false e = last_here (Go y) low (ap not e)

  gate_hop : (p : Path) → depth p ≡ r.levels → begins_process r (act_at r p) ≡ false → Hop Name Wire (web (plan_of r T)) Kept (To p) (Go (act_at r p))
  gate_hop p deep none = record {
    joins = sym gate;
    inner = λ k. true≢false (sym (subst Kept gate k) ∙ none);
    takes = takes;
    gives = λ t less.
        let back_at : tally same_wire naught t (To (entry r y)) ≡ tally same_wire naught t (To p) = ap (λ q. tally same_wire naught t (To q)) (sane.entry_back p deep) in
        (sane.act_low p deep, inl (sym gate, omega (arith, opened_zero y none, back_at, less)));
    passed = passed;
  }
    where
      y : ℕ
      y = act_at r p

      gate : receiver (plan_of r T) (To p) ≡ Gate (act_at r p)
      gate = to_gate (plan_of r T) p deep

      takes : (t : List Wire) → Rule (plan_of r T) (receiver (plan_of r T) (To p)) t (To p) → tally same_wire naught t (To p) ≡ tally same_wire naught t (Go (act_at r p))
      takes t (h, inl e) = absurd (clean (plan_of r T) (To p) e.0)
      takes t (h, inr e) =
          let z : opened_by r.opens (act_at r p) + tally same_wire naught t (To p) ≡ tally same_wire naught t (Go (act_at r p)) =
          subst (λ b. takes_to (plan_of r T) b (tally same_wire naught t) p) (eq-eqb (depth p) r.levels deep) e.1 in
          omega (arith, opened_zero (act_at r p) none)

      passed : (t : List Wire) → Rule (plan_of r T) (receiver (plan_of r T) (To p)) t (Go (act_at r p)) → tally same_wire naught t (Go (act_at r p)) < tally same_wire naught t (To p)
      passed t (h, inl e) =
          let back_at : tally same_wire naught t (To (entry r y)) ≡ tally same_wire naught t (To p) = ap (λ q. tally same_wire naught t (To q)) (sane.entry_back p deep) in
          omega (arith, e.1, opened_zero y none)
      passed t (h, inr e) = let z : Spread (act_at r p) ≡ Gate (act_at r p) = e.0 ∙ gate in absurd (cc (z))

  join_hop : (a : ℕ) → is_in a r.burst ≡ true → is_single r.burst ≡ true → Hop Name Wire (web (plan_of r T)) Kept (Sym a) (To Top)
  join_hop a takes one = record {
    joins = refl;
    inner = λ k. left_out (is_single r.burst) one k;
    takes = taken;
    gives = λ t less. (
      omega arith,
      inl (
        refl,
        λ b also.
            let z : b ≡ a = single_one r.burst b one (in_among b r.burst also) ∙ sym (single_one r.burst a one (in_among a r.burst takes)) in
            subst (λ (x : ℕ). tally same_wire naught t (To Top) < tally same_wire naught t (Sym x)) (sym z) less,
      ),
    );
    passed = passed;
  }
    where
      taken : (t : List Wire) → Rule (plan_of r T) Join t (Sym a) → tally same_wire naught t (Sym a) ≡ tally same_wire naught t (To Top)
      taken t (h, inl e) = absurd (cc (e.0))
      taken t (h, inr e) = e.1

      passed : (t : List Wire) → Rule (plan_of r T) Join t (To Top) → tally same_wire naught t (To Top) < tally same_wire naught t (Sym a)
      passed t (h, inl e) = e.1 a takes
      passed t (h, inr e) = let z : Tog Top ≡ Join = sym (to_tog (plan_of r T) Top fine.some_levels) ∙ e.0 in absurd (cc (z))

  to_other : (p : Path) (z : Wire) → Late z → To p ≡ z → ⊥
  to_other p (Sym a) l e = l
  to_other p (To q) l e = l
  to_other p (Go y) l e = cc
  to_other p (Put y a) l e = cc
  to_other p (Out a) l e = cc

  last_to : (p : Path) → depth p ≤ r.levels → Last (To p) (on r (To p))
  last_to p h = elim (cases_eq (depth p) r.levels) [
    | inl deep ↦ subst (λ b. Last (To p) (if b then (if begins_process r (act_at r p) then To p else on_go r (act_at r p)) else To p)) (sym (eq-eqb (depth p) r.levels deep)) (gate deep (begins_process r (act_at r p)) refl)
    | inr inner ↦
        subst (λ b. Last (To p) (if b then (if begins_process r (act_at r p) then To p else on_go r (act_at r p)) else To p)) (sym (ne_eqb (depth p) r.levels inner))
        (last_here (To p) h (subst Kept (sym (to_tog (plan_of r T) p (omega arith))) (lt-ltb (depth p) r.levels (omega arith))))
  ]
    where
      gate : depth p ≡ r.levels → (b : Bool) → begins_process r (act_at r p) ≡ b → Last (To p) (if b then To p else on_go r (act_at r p))
      gate deep true e = last_here (To p) h (subst Kept (sym (to_gate (plan_of r T) p deep)) e)
      gate deep false e =
          let low : act_at r p < pow r.levels = sane.act_low p deep in
          let n = last_go (act_at r p) low in
          last_hop (To p) (Go (act_at r p)) (on_go r (act_at r p)) (gate_hop p deep e) (to_other p (on_go r (act_at r p)) (n.late tt))
          (rw e (ap To (sane.entry_back p deep) ∙ sym (leaf_back p deep))) (λ x. absurd x) n

  pub last_of : (w : Wire) → Here w → Last w (on r w)
  last_of (Sym a) h = at (is_single r.burst) refl
    where
      at : (b : Bool) → is_single r.burst ≡ b → Last (Sym a) (if b then To Top else Sym a)
      at true e =
          let z : a ≡ sole r.burst = single_one r.burst a e (in_among a r.burst h) in
          let top : Kept (receiver (plan_of r T) (To Top)) = subst Kept (sym (to_tog (plan_of r T) Top fine.some_levels)) (lt-ltb 0 r.levels fine.some_levels) in
          last_hop (Sym a) (To Top) (To Top) (join_hop a h e) (λ q. cc) (rw e (ap Sym (sym z))) (λ x. absurd x) (last_here (To Top) (omega arith) top)
      at false e = last_here (Sym a) h (ap not e)
  last_of (To p) h = last_to p h
  last_of (Go y) h = last_go y h
  last_of (Put y a) h = last_put y a h.0 h.1
  last_of (Out a) h = last_here (Out a) h refl
