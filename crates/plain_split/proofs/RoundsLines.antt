-- The wires and the nodes of the network of rounds: each stands once in the lists of the chart.
use Rattle.std.specs.Prelude.{filter, if◌then◌else◌, not, ◌&&◌, nat_eq, nat_lt}
use Rattle.std.proofs.Common.{eq-eqb, ne_eqb, eqb-true, ◌≡◌, ℕ, zero, suc, ◌+◌, ◌-◌, ◌<◌, ◌≤◌, Bool, true, false, true≢false, List, [], ◌∷◌, ◌++◌, map, ◌⊎◌, inl, inr, refl, sym, ap, subst, ◌∙◌, arith}
use Rattle.std.specs.List.{range_with_len}
use Rattle.std.proofs.lemmas.Bool.{cases_eq, cases_Bool, and_parts, lt-ltb}
use Rattle.cmd_tree.specs.Lists.{is_in}
use Rattle.net_laws.specs.ForkChain.{each}
use Rattle.net_laws.proofs.Among.{Among, Distinct}
use Rattle.net_laws.proofs.Rows.{among_left, among_right, among_either, distinct_both}
use Rattle.net_laws.proofs.Blocks.{among_each, each_among, distinct_each}
use Rattle.plain_split.specs.RoundsNet.{Path, Top, Odd, Even, depth, pow, first_at, leaf, Wire, Sym, To, Go, Put, Out, Name, Env, Join, Tog, Gate, Spread, Shows}
use Rattle.plain_split.specs.RoundsChart.{Parts, is_single, sole, entry, act_at, givers, begins_process, is_kept, back_go, back_put, back, on_put, on_go, on, ends_inside, count, is_out, outer, outer_ports, places, puts, inner_wires, lines}
use Rattle.plain_split.proofs.RoundsPlan.{Sane}
use Rattle.plain_split.proofs.RoundsWeb.{driver, receiver, to_gate}
use Rattle.plain_split.proofs.RoundsDeal.{pow_some, first_low, first_leaf, leaf_deep, leaf_first}
use Rattle.plain_split.proofs.RoundsLists.{filter_among, among_filter, distinct_filter, map_among, among_map, distinct_map}
use Rattle.plain_split.proofs.RoundsRoutes.{Fine, plan_of, in_among, among_in, single_one, Here, range_in, in_givers, back_is, back_same, last_of}

range_high : (b k x : ℕ) → Among x (range_with_len b k) → (b ≤ x) × (x < b + k)
range_high b zero x i = absurd i
range_high b (suc k) x (inl e) = (omega arith, omega arith)
range_high b (suc k) x (inr i) = let (p, q) = range_high (b + 1) k x i in (omega arith, omega arith)

pub range_low : (k x : ℕ) → Among x (range_with_len 0 k) → x < k
range_low k x i = let (p, q) = range_high 0 k x i in omega arith

range_from : (b k : ℕ) → Distinct (range_with_len b k)
range_from b zero = tt
range_from b (suc k) = ((λ i. let (p, q) = range_high (b + 1) k b i in omega arith), range_from (b + 1) k)

pub range_once : (k : ℕ) → Distinct (range_with_len 0 k)
range_once k = range_from 0 k

-- the kind of a wire, and of a node
abbrev pub tag : Wire → ℕ
tag (Sym a) = 0
tag (To Top) = 1
tag (To (Odd p)) = 2
tag (To (Even p)) = 2
tag (Go y) = 3
tag (Put y a) = 4
tag (Out a) = 5

abbrev pub label : Name → ℕ
label Env = 0
label Join = 1
label (Tog p) = 2
label (Gate y) = 3
label (Spread y) = 4
label (Shows a) = 5

leaf_tag : (d i : ℕ) → tag (To (leaf (suc d) i)) ≡ 2
leaf_tag d i = at (nat_lt i (pow d))
  where
    at : (b : Bool) → tag (To (if b then Odd (leaf d i) else Even (leaf d (i - pow d)))) ≡ 2
    at true = refl
    at false = refl

out_from : (w : Wire) → ends_inside w ≡ false → (a : ℕ) × (w ≡ Out a)
out_from (Sym a) e = absurd (true≢false e)
out_from (To p) e = absurd (true≢false e)
out_from (Go y) e = absurd (true≢false e)
out_from (Put y a) e = absurd (true≢false e)
out_from (Out a) e = (a, refl)

module _ (r : Parts) (T : List ℕ → Type 0) (fine : Fine r T) (sane : Sane (plan_of r T)) where
  abbrev pub G : Wire → Type 0
  G w = Here r T fine sane w

  abbrev pub K : Name → Type 0
  K n = is_kept r n ≡ true

  -- ---- from the first wire to the last one

  go_on : (y : ℕ) → y < pow r.levels → on r (back_go r y) ≡ on_go r y
  go_on y low = at (begins_process r y) refl
    where
      deep : depth (entry r y) ≡ r.levels
      deep = sane.entry_deep y low

      at : (b : Bool) → begins_process r y ≡ b → on r (if b then Go y else To (entry r y)) ≡ on_go r y
      at true e = refl
      at false e =
          let same : act_at r (entry r y) ≡ y = sane.act_back y low in
          ap (λ b. if b then (if begins_process r (act_at r (entry r y)) then To (entry r y) else on_go r (act_at r (entry r y))) else To (entry r y)) (eq-eqb (depth (entry r y)) r.levels deep)
          ∙ ap (λ (x : ℕ). if begins_process r x then To (entry r y) else on_go r x) same
          ∙ ap (λ b. if b then To (entry r y) else on_go r y) e

  put_on : (y a : ℕ) → y < pow r.levels → is_in a (r.outs y) ≡ true → on r (back_put r y a) ≡ on_put r y a
  put_on y a low gives = at (is_single (r.outs y)) refl
    where
      at : (b : Bool) → is_single (r.outs y) ≡ b → on r (if b then back_go r y else Put y a) ≡ on_put r y a
      at true e =
          let z : a ≡ sole (r.outs y) = single_one (r.outs y) a e (in_among a (r.outs y) gives) in
          go_on y low ∙ ap (λ b. if b then on_put r y (sole (r.outs y)) else Go y) e ∙ ap (on_put r y) (sym z)
      at false e = refl

  out_on : (a : ℕ) → G (Out a) → on r (back r (Out a)) ≡ Out a
  out_on a (y, low, gives) = at (is_single (givers r a)) refl
    where
      at : (b : Bool) → is_single (givers r a) ≡ b → on r (if b then back_put r (sole (givers r a)) a else Out a) ≡ Out a
      at true e =
          let z : y ≡ sole (givers r a) = single_one (givers r a) y e (in_givers r T fine sane a y low gives) in
          ap (λ (x : ℕ). on r (back_put r x a)) (sym z) ∙ put_on y a low gives ∙ ap (λ b. if b then Out a else Put y a) e
      at false e = refl

  is_not : (b : Bool) → not b ≡ true → b ≡ false
  is_not true e = absurd (true≢false (sym e))
  is_not false e = refl

  -- a wire whose receiver is kept is the last one
  pub on_back : (w : Wire) → G w → K (receiver (plan_of r T) w) → on r (back r w) ≡ w
  on_back (Sym a) h k = ap (λ b. if b then To Top else Sym a) (is_not (is_single r.burst) k)
  on_back (To Top) h k = at (is_single r.burst) refl
    where
      at : (b : Bool) → is_single r.burst ≡ b → on r (if b then Sym (sole r.burst) else To Top) ≡ To Top
      at true e = ap (λ b. if b then To Top else Sym (sole r.burst)) e
      at false e = ap (λ b. if b then (if begins_process r (act_at r Top) then To Top else on_go r (act_at r Top)) else To Top) (ne_eqb 0 r.levels (λ z. omega (arith, fine.some_levels)))
  on_back (To (Odd p)) h k = stays (Odd p) h k
    where
      stays : (q : Path) → depth q ≤ r.levels → K (receiver (plan_of r T) (To q)) → on r (To q) ≡ To q
      stays q low kept = elim (cases_eq (depth q) r.levels) [
        | inl deep ↦
            ap (λ b. if b then (if begins_process r (act_at r q) then To q else on_go r (act_at r q)) else To q) (eq-eqb (depth q) r.levels deep)
            ∙ ap (λ b. if b then To q else on_go r (act_at r q)) (subst K (to_gate (plan_of r T) q deep) kept)
        | inr inner ↦ ap (λ b. if b then (if begins_process r (act_at r q) then To q else on_go r (act_at r q)) else To q) (ne_eqb (depth q) r.levels inner)
      ]
  on_back (To (Even p)) h k = stays (Even p) h k
    where
      stays : (q : Path) → depth q ≤ r.levels → K (receiver (plan_of r T) (To q)) → on r (To q) ≡ To q
      stays q low kept = elim (cases_eq (depth q) r.levels) [
        | inl deep ↦
            ap (λ b. if b then (if begins_process r (act_at r q) then To q else on_go r (act_at r q)) else To q) (eq-eqb (depth q) r.levels deep)
            ∙ ap (λ b. if b then To q else on_go r (act_at r q)) (subst K (to_gate (plan_of r T) q deep) kept)
        | inr inner ↦ ap (λ b. if b then (if begins_process r (act_at r q) then To q else on_go r (act_at r q)) else To q) (ne_eqb (depth q) r.levels inner)
      ]
  on_back (Go y) h k = go_on y h ∙ ap (λ b. if b then on_put r y (sole (r.outs y)) else Go y) (is_not (is_single (r.outs y)) k)
  on_back (Put y a) h k = put_on y a h.0 h.1 ∙ ap (λ b. if b then Out a else Put y a) (is_not (is_single (givers r a)) k)
  on_back (Out a) h k = out_on a h

  -- ---- the outer wires

  abbrev Outer : Wire → Type 0
  Outer w = ((a : ℕ) × (w ≡ Sym a) × G (Sym a)) ⊎ ((a : ℕ) × (w ≡ Out a) × G (Out a))

  pub outer_at : (a : ℕ) → a < count r → Outer (outer r a)
  outer_at a low = at (is_out r a) refl
    where
      at : (b : Bool) → is_out r a ≡ b → Outer (if b then Out a else Sym a)
      at true e = inr (a, refl, fine.covers_out a low e)
      at false e = inl (a, refl, fine.covers_in a low e)

  outer_is : (w : Wire) → Among w (outer_ports r) → Outer w
  outer_is w h = let (a, i, e) = map_among (outer r) (range_with_len 0 (count r)) w h in subst Outer (sym e) (outer_at a (range_low (count r) a i))

  pub outer_there : (w : Wire) → Outer w → G w
  outer_there w (inl (a, e, h)) = subst G (sym e) h
  outer_there w (inr (a, e, h)) = subst G (sym e) h

  pub sym_outer : (a : ℕ) → G (Sym a) → Among (Sym a) (outer_ports r)
  sym_outer a h =
      let (low, no_out) = fine.burst_in a h in
      subst (λ w. Among w (outer_ports r)) (ap (λ b. if b then Out a else Sym a) no_out) (among_map (outer r) (range_with_len 0 (count r)) a (range_in r T fine sane (count r) a low))

  pub out_outer : (a : ℕ) → G (Out a) → Among (Out a) (outer_ports r)
  out_outer a (y, less, gives) =
      let (low, yes_out) = fine.outs_in y a less gives in
      subst (λ w. Among w (outer_ports r)) (ap (λ b. if b then Out a else Sym a) yes_out) (among_map (outer r) (range_with_len 0 (count r)) a (range_in r T fine sane (count r) a low))

  symbol : Wire → ℕ
  symbol (Sym a) = a
  symbol (To p) = 0
  symbol (Go y) = 0
  symbol (Put y a) = 0
  symbol (Out a) = a

  outer_symbol : (a : ℕ) → symbol (outer r a) ≡ a
  unfolding symbol
  outer_symbol a = at (is_out r a)
    where
      at : (b : Bool) → symbol (if b then Out a else Sym a) ≡ a
      at true = refl
      at false = refl

  pub outer_once : Distinct (outer_ports r)
  outer_once = distinct_map (outer r) (range_with_len 0 (count r)) (λ a b i j e. sym (outer_symbol a) ∙ ap symbol e ∙ outer_symbol b) (range_once (count r))

  -- ---- the wires that begin inside

  pub record Inside (w : Wire) : Type 0 where
    pub there : G w
    pub kept : K (driver w)
    pub apart : tag w ≡ 0 → ⊥

  place_driven : (p : Path) → 0 < depth p → depth p ≤ r.levels → K (driver (To p))
  place_driven Top a b = absurd (omega arith)
  place_driven (Odd p) a b = lt-ltb (depth p) r.levels (omega arith)
  place_driven (Even p) a b = lt-ltb (depth p) r.levels (omega arith)

  abbrev top_block : Bool → List Wire
  top_block b = if b then [] else To Top ∷ []

  abbrev go_block : Bool → List Wire
  go_block b = if b then Go 0 ∷ [] else []

  abbrev put_block : Bool → ℕ → List Wire
  put_block b y = if b then [] else map (Put y) (r.outs y)

  top_is : (b : Bool) (w : Wire) → Among w (top_block b) → (b ≡ false) × (w ≡ To Top)
  top_is true w h = absurd h
  top_is false w (inl e) = (refl, e)
  top_is false w (inr i) = absurd i

  go_is : (b : Bool) (w : Wire) → Among w (go_block b) → (b ≡ true) × (w ≡ Go 0)
  go_is true w (inl e) = (refl, e)
  go_is true w (inr i) = absurd i
  go_is false w h = absurd h

  puts_is : (b : Bool) (y : ℕ) (w : Wire) → Among w (put_block b y) → (b ≡ false) × ((a : ℕ) × Among a (r.outs y) × (w ≡ Put y a))
  puts_is true y w h = absurd h
  puts_is false y w h = (refl, map_among (Put y) (r.outs y) w h)

  place_is : (w : Wire) → Among w (each (places r) r.levels) → (d : ℕ) × (d < r.levels) × ((i : ℕ) × (i < pow (suc d)) × (w ≡ To (leaf (suc d) i)))
  place_is w h =
      let (d, low, i) = among_each (places r) r.levels w h in
      let (x, j, e) = map_among (λ i. To (leaf (suc d) i)) (range_with_len 0 (pow (suc d))) w i in
      (d, low, (x, range_low (pow (suc d)) x j, e))

  put_is : (w : Wire) → Among w (each (puts r) (pow r.levels)) → (y : ℕ) × (y < pow r.levels) × (is_single (r.outs y) ≡ false) × ((a : ℕ) × Among a (r.outs y) × (w ≡ Put y a))
  put_is w h =
      let (y, low, i) = among_each (puts r) (pow r.levels) w h in
      let (e, j) = puts_is (is_single (r.outs y)) y w i in
      (y, low, e, j)

  abbrev block2 : List Wire
  block2 = each (places r) r.levels

  abbrev block4 : List Wire
  block4 = each (puts r) (pow r.levels)

  top_inside : (w : Wire) → Among w (top_block (is_single r.burst)) → Inside w
  top_inside w h = let (e, is) = top_is (is_single r.burst) w h in subst Inside (sym is) (record { there = omega arith; kept = ap not e; apart = λ z. omega arith })

  place_inside : (w : Wire) → Among w block2 → Inside w
  place_inside w h =
      let (d, low, (i, less, e)) = place_is w h in
      let deep : depth (leaf (suc d) i) ≡ suc d = leaf_deep (suc d) i in
      subst Inside (sym e) (record { there = omega arith; kept = place_driven (leaf (suc d) i) (omega arith) (omega arith); apart = λ z. omega (arith, leaf_tag d i) })

  go_inside : (w : Wire) → Among w (go_block r.opens) → Inside w
  go_inside w h = let (e, is) = go_is r.opens w h in subst Inside (sym is) (record { there = pow_some r.levels; kept = ap (λ b. b && nat_eq 0 0) e; apart = λ z. omega arith })

  put_inside : (w : Wire) → Among w block4 → Inside w
  put_inside w h =
      let (y, low, e, (a, i, is)) = put_is w h in
      subst Inside (sym is) (record { there = (low, among_in a (r.outs y) i); kept = ap not e; apart = λ z. omega arith })

  pub inside_is : (w : Wire) → Among w (inner_wires r) → Inside w
  inside_is w h = elim (among_either w (top_block (is_single r.burst)) (block2 ++ (go_block r.opens ++ block4)) h) [
    | inl a ↦ top_inside w a
    | inr b ↦ elim (among_either w block2 (go_block r.opens ++ block4) b) [
      | inl a ↦ place_inside w a
      | inr c ↦ elim (among_either w (go_block r.opens) block4 c) [ inl a ↦ go_inside w a | inr d ↦ put_inside w d ]
    ]
  ]

  in_places : (p : Path) → 0 < depth p → depth p ≤ r.levels → Among (To p) (inner_wires r)
  in_places p some low =
      let d : ℕ = depth p - 1 in
      let deep : suc d ≡ depth p = omega arith in
      let there : To (leaf (suc d) (first_at p)) ≡ To p = ap (λ x. To (leaf x (first_at p))) deep ∙ ap To (first_leaf p) in
      let less : first_at p < pow (suc d) = omega (arith, first_low p, ap pow deep) in
      among_right (To p) (top_block (is_single r.burst)) (block2 ++ (go_block r.opens ++ block4)) (among_left (To p) block2 (go_block r.opens ++ block4)
      (each_among (places r) r.levels d (To p) (omega arith)
      (subst (λ w. Among w (places r d)) there (among_map (λ i. To (leaf (suc d) i)) (range_with_len 0 (pow (suc d))) (first_at p) (range_in r T fine sane (pow (suc d)) (first_at p) less)))))

  inner_in : (w : Wire) → G w → K (driver w) → ends_inside (on r w) ≡ true → (tag w ≡ 0 → ⊥) → Among w (inner_wires r)
  inner_in (Sym a) h k e ne = absurd (ne refl)
  inner_in (To Top) h k e ne = among_left (To Top) (top_block (is_single r.burst)) (block2 ++ (go_block r.opens ++ block4))
      (subst (λ b. Among (To Top) (top_block b)) (sym (is_not (is_single r.burst) k)) (inl refl))
  inner_in (To (Odd p)) h k e ne = in_places (Odd p) (omega arith) h
  inner_in (To (Even p)) h k e ne = in_places (Even p) (omega arith) h
  inner_in (Go y) h k e ne =
      let (opens, is) = and_parts r.opens (nat_eq y 0) k in
      let z : y ≡ 0 = eqb-true y 0 is in
      among_right (Go y) (top_block (is_single r.burst)) (block2 ++ (go_block r.opens ++ block4)) (among_right (Go y) block2 (go_block r.opens ++ block4)
      (among_left (Go y) (go_block r.opens) block4 (subst (λ b. Among (Go y) (go_block b)) (sym opens) (inl (ap Go z)))))
  inner_in (Put y a) h k e ne =
      among_right (Put y a) (top_block (is_single r.burst)) (block2 ++ (go_block r.opens ++ block4)) (among_right (Put y a) block2 (go_block r.opens ++ block4)
      (among_right (Put y a) (go_block r.opens) block4 (each_among (puts r) (pow r.levels) y (Put y a) h.0
      (subst (λ b. Among (Put y a) (put_block b y)) (sym (is_not (is_single (r.outs y)) k)) (among_map (Put y) (r.outs y) a (in_among a (r.outs y) h.1))))))
  inner_in (Out a) h k e ne = absurd (true≢false (sym e))

  inner_once : Distinct (inner_wires r)
  inner_once = distinct_both (top_block (is_single r.burst)) (block2 ++ (go_block r.opens ++ block4)) (top_once (is_single r.burst))
      (distinct_both block2 (go_block r.opens ++ block4) places_once (distinct_both (go_block r.opens) block4 (go_once r.opens) puts_once
      (λ x a b. let (i, e) = go_is r.opens x a in let (y, low, j, (c, k, f)) = put_is x b in omega (arith, ap tag e, ap tag f)))
      (λ x a b. let (d, low, (i, less, e)) = place_is x a in elim (among_either x (go_block r.opens) block4 b) [
        | inl c ↦ let (j, f) = go_is r.opens x c in omega (arith, ap tag e, ap tag f, leaf_tag d i)
        | inr c ↦ let (y, high, j, (o, k, f)) = put_is x c in omega (arith, ap tag e, ap tag f, leaf_tag d i)
      ]))
      (λ x a b. let (i, e) = top_is (is_single r.burst) x a in elim (among_either x block2 (go_block r.opens ++ block4) b) [
        | inl c ↦ let (d, low, (j, less, f)) = place_is x c in omega (arith, ap tag e, ap tag f, leaf_tag d j)
        | inr c ↦ elim (among_either x (go_block r.opens) block4 c) [
          | inl d ↦ let (j, f) = go_is r.opens x d in omega (arith, ap tag e, ap tag f)
          | inr d ↦ let (y, high, j, (o, k, f)) = put_is x d in omega (arith, ap tag e, ap tag f)
        ]
      ])
    where
      top_once : (b : Bool) → Distinct (top_block b)
      top_once true = tt
      top_once false = ((λ z. z), tt)

      go_once : (b : Bool) → Distinct (go_block b)
      go_once true = ((λ z. z), tt)
      go_once false = tt

      to_one : (p q : Path) → To p ≡ To q → p ≡ q
      to_one p q e = cc

      place_at : (d x y : ℕ) → x < pow (suc d) → y < pow (suc d) → To (leaf (suc d) x) ≡ To (leaf (suc d) y) → x ≡ y
      place_at d x y i j e = sym (leaf_first (suc d) x i) ∙ ap first_at (to_one (leaf (suc d) x) (leaf (suc d) y) e) ∙ leaf_first (suc d) y j

      places_once : Distinct block2
      places_once = distinct_each (places r) r.levels
          (λ d low. distinct_map (λ i. To (leaf (suc d) i)) (range_with_len 0 (pow (suc d))) (λ x y i j e. place_at d x y (range_low (pow (suc d)) x i) (range_low (pow (suc d)) y j) e) (range_once (pow (suc d))))
          (λ d q x a b.
          let (i, j, e) = map_among (λ i. To (leaf (suc d) i)) (range_with_len 0 (pow (suc d))) x a in
          let (k, l, f) = map_among (λ i. To (leaf (suc q) i)) (range_with_len 0 (pow (suc q))) x b in
          omega (arith, ap depth (to_one (leaf (suc d) i) (leaf (suc q) k) (sym e ∙ f)), leaf_deep (suc d) i, leaf_deep (suc q) k))

      put_once : (b : Bool) (y : ℕ) → y < pow r.levels → Distinct (put_block b y)
      put_once true y low = tt
      put_once false y low = distinct_map (Put y) (r.outs y) (λ a c i j e. cc) (fine.outs_once y low)

      puts_once : Distinct block4
      puts_once = distinct_each (puts r) (pow r.levels) (λ y low. put_once (is_single (r.outs y)) y low) (λ y z x a b.
          let (i, (c, j, e)) = puts_is (is_single (r.outs y)) y x a in
          let (k, (o, l, f)) = puts_is (is_single (r.outs z)) z x b in
          let same : Put y c ≡ Put z o = sym e ∙ f in cc)

  -- ---- the lines

  pub line_is : (w : Wire) → Among w (lines r) → G w × K (driver w)
  line_is w h = elim (among_either w (map (back r) (outer_ports r)) (filter (λ w. ends_inside (on r w)) (inner_wires r)) h) [
    | inl a ↦
        let (v, i, e) = map_among (back r) (outer_ports r) w a in
        let (there, kept, same) = back_is r T fine sane v (outer_there v (outer_is v i)) in
        (subst G (sym e) there, subst (λ x. K (driver x)) (sym e) kept)
    | inr b ↦ let i = inside_is w (filter_among (λ w. ends_inside (on r w)) (inner_wires r) w b).0 in (i.there, i.kept)
  ]

  pub line_in : (w : Wire) → G w → K (driver w) → Among w (lines r)
  line_in w h k = elim (cases_Bool (ends_inside (on r w))) [
    | inl inside ↦ elim (cases_eq (tag w) 0) [
      | inl outside ↦ from_sym w outside h
      | inr ne ↦ among_right w (map (back r) (outer_ports r)) (filter (λ w. ends_inside (on r w)) (inner_wires r))
          (among_filter (λ w. ends_inside (on r w)) (inner_wires r) w (inner_in w h k inside ne) inside)
    ]
    | inr ends ↦
        let (a, is) = out_from (on r w) ends in
        let last = last_of r T fine sane w h in
        let there : G (Out a) = subst G is last.there in
        let same : back r (Out a) ≡ w = ap (back r) (sym is) ∙ last.back_to ∙ back_same r T fine sane w h k in
        among_left w (map (back r) (outer_ports r)) (filter (λ w. ends_inside (on r w)) (inner_wires r))
        (subst (λ x. Among x (map (back r) (outer_ports r))) same (among_map (back r) (outer_ports r) (Out a) (out_outer a there)))
  ]
    where
      from_sym : (v : Wire) → tag v ≡ 0 → G v → Among v (lines r)
      from_sym (Sym a) e i = among_left (Sym a) (map (back r) (outer_ports r)) (filter (λ w. ends_inside (on r w)) (inner_wires r)) (among_map (back r) (outer_ports r) (Sym a) (sym_outer a i))
      from_sym (To Top) e i = absurd (omega arith)
      from_sym (To (Odd p)) e i = absurd (omega arith)
      from_sym (To (Even p)) e i = absurd (omega arith)
      from_sym (Go y) e i = absurd (omega arith)
      from_sym (Put y a) e i = absurd (omega arith)
      from_sym (Out a) e i = absurd (omega arith)

  sym_out : (a b : ℕ) → Sym a ≡ back r (Out b) → G (Out b) → ⊥
  sym_out a b e h = at (is_single r.burst) (ap (on r) e ∙ out_on b h)
    where
      at : (c : Bool) → (if c then To Top else Sym a) ≡ Out b → ⊥
      at true z = cc
      at false z = cc

  back_one : (v w : Wire) → Outer v → Outer w → back r v ≡ back r w → v ≡ w
  back_one v w (inl (a, e, h)) (inl (b, f, i)) z = e ∙ sym (ap (back r) e) ∙ z ∙ ap (back r) f ∙ sym f
  back_one v w (inl (a, e, h)) (inr (b, f, i)) z = absurd (sym_out a b (sym (ap (back r) e) ∙ z ∙ ap (back r) f) i)
  back_one v w (inr (a, e, h)) (inl (b, f, i)) z = absurd (sym_out b a (sym (ap (back r) f) ∙ sym z ∙ ap (back r) e) h)
  back_one v w (inr (a, e, h)) (inr (b, f, i)) z = e ∙ sym (out_on a h) ∙ ap (on r) (sym (ap (back r) e) ∙ z ∙ ap (back r) f) ∙ out_on b i ∙ sym f

  pub lines_once : Distinct (lines r)
  lines_once = distinct_both (map (back r) (outer_ports r)) (filter (λ w. ends_inside (on r w)) (inner_wires r))
      (distinct_map (back r) (outer_ports r) (λ v w a b e. back_one v w (outer_is v a) (outer_is w b) e) outer_once)
      (distinct_filter (λ w. ends_inside (on r w)) (inner_wires r) inner_once)
      (λ x a b.
      let (v, i, e) = map_among (back r) (outer_ports r) x a in
      let (j, inside) = filter_among (λ w. ends_inside (on r w)) (inner_wires r) x b in
      at x v e (outer_is v i) inside (inside_is x j))
    where
      at : (x v : Wire) → x ≡ back r v → Outer v → ends_inside (on r x) ≡ true → Inside x → ⊥
      at x v e (inl (a, f, h)) inside i = i.apart (ap tag (e ∙ ap (back r) f))
      at x v e (inr (a, f, h)) inside i = true≢false (sym inside ∙ ap (λ w. ends_inside (on r w)) (e ∙ ap (back r) f) ∙ ap ends_inside (out_on a h))
