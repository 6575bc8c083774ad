-- The network of rounds is right.
use Rattle.std.specs.Prelude.{filter, if◌then◌else◌, not, ◌&&◌, nat_eq, IsTrue, replicate}
use Rattle.std.proofs.Common.{eqb-true, ◌≡◌, ◌↔◌, ℕ, zero, suc, ◌+◌, ◌<◌, ◌≤◌, ◌^◌, Bool, true, false, true≢false, List, [], ◌∷◌, ◌++◌, map, length, get_or, ◌⊎◌, inl, inr, refl, sym, ap, subst, ◌∙◌, arith}
use Rattle.std.specs.List.{AllByRecursion, range_with_len, position_or_len}
use Rattle.std.proofs.lemmas.Bool.{cases_eq, cases_Bool, and_parts, and_from, lt-ltb, ltb-true}
use Rattle.std.proofs.lemmas.List.{length-map, length-append, get_or_append_left, get_or-map}
use Rattle.std.proofs.lemmas.List.FromFn.{length-map-range_with_len, get_or-map-range_with_len}
use native.Mathlib.Decide.{ℕ_discrete}
use Rattle.cmd_tree.specs.Lists.{is_in}
use Rattle.net_core.specs.Specs.{outs_of, IsFormed, May, is_kind}
use Rattle.net_laws.specs.Charts.{charted}
use Rattle.net_laws.specs.ForkChain.{each}
use Rattle.net_laws.specs.Implementing.{Implements}
use Rattle.net_laws.proofs.Webs as webs
use Rattle.net_laws.proofs.Webs.{WebSound, WebExact}
use Rattle.net_laws.proofs.Among.{Among, Distinct}
use Rattle.net_laws.proofs.Routes.{Joined, Routes, routes_basic, routes_clean, routes_correct}
use Rattle.net_laws.proofs.Rows.{among_left, among_right, among_either, distinct_both, joined_outs, joined_ins, joined_both}
use Rattle.net_laws.proofs.Blocks.{among_each, each_among, distinct_each}
use Rattle.plain_split.specs.RoundsNet.{Path, Top, Odd, Even, depth, pow, first_at, leaf, path_discrete, Wire, Sym, To, Go, Put, Out, wire_discrete, Name, Env, Join, Tog, Gate, Spread, Shows}
use Rattle.plain_split.specs.RoundsChart.{Parts, is_single, sole, same, entry, act_at, givers, begins_process, is_kept, back, on_put, on_go, on, count, is_out, outer, outer_ports, lines, ports, spec_of, toggles, parts, rounds_chart, ends_inside, inner_wires}
use Rattle.plain_split.proofs.RoundsPlan.{Sane}
use Rattle.plain_split.proofs.RoundsWeb.{driver, receiver, to_gate, to_tog, There, web, clean, lawful}
use Rattle.plain_split.proofs.RoundsDeal.{pow_some, first_low, first_leaf, leaf_deep, leaf_first}
use Rattle.plain_split.proofs.RoundsLists.{all_of, filter_among, among_filter, distinct_filter, places_are, map_among, among_map, distinct_map, place_at}
use Rattle.plain_split.proofs.RoundsRoutes.{Fine, plan_of, in_among, among_in, several, range_in, in_givers, back_is, back_same, last_of}
use Rattle.plain_split.proofs.RoundsLines.{range_low, range_once, label, outer_at, outer_there, sym_outer, out_outer, outer_once, on_back, line_is, line_in, lines_once}
use Rattle.plain_split.proofs.RoundsMay.{nothing, join_once, join_may, spread_once, spread_may, tog_once, tog_may, gate_once, gate_may, shows_once, shows_may, env_may}

pub same_one : (v w : Wire) → same v w ≡ true → v ≡ w
same_one v w h = at (wire_discrete ℕ_discrete path_discrete v w) h
  where
    at : (x : Dec (v ≡ w)) → (elim x [ yes p ↦ true | no h ↦ false ]) ≡ true → v ≡ w
    at (yes p) e = p
    at (no q) e = absurd (true≢false (sym e))

pub same_self : (v : Wire) → same v v ≡ true
same_self v = at (wire_discrete ℕ_discrete path_discrete v v)
  where
    at : (x : Dec (v ≡ v)) → (elim x [ yes p ↦ true | no h ↦ false ]) ≡ true
    at (yes p) = refl
    at (no q) = absurd (q refl)

pub map_same : {A B : Type 0} (f h : A → B) (xs : List A) → ((x : A) → Among x xs → f x ≡ h x) → map f xs ≡ map h xs
map_same f h [] e = refl
map_same f h (x ∷ xs) e = ap (λ y. y ∷ map f xs) (e x (inl refl)) ∙ ap (λ ys. h x ∷ ys) (map_same f h xs (λ y a. e y (inr a)))

joined_by : {N W : Type 0} (f g : W → N) (n : N) (h : ℕ → W) (bs : List Bool) (b : ℕ)
    → ((i : ℕ) → i < length bs → get_or bs i false ≡ true → f (h (b + i)) ≡ n) → ((i : ℕ) → i < length bs → get_or bs i false ≡ false → g (h (b + i)) ≡ n)
    → Joined f g n bs (map h (range_with_len b (length bs)))
joined_by f g n h [] b gives takes = tt
joined_by f g n h (true ∷ bs) b gives takes =
    let z : b + 0 ≡ b = omega arith in (
      ap (λ i. f (h i)) (sym z) ∙ gives 0 (omega arith) refl,
      joined_by f g n h bs (b + 1)
          (λ i low e. let y : b + 1 + i ≡ b + suc i = omega arith in ap (λ j. f (h j)) y ∙ gives (suc i) (omega arith) e)
          (λ i low e. let y : b + 1 + i ≡ b + suc i = omega arith in ap (λ j. g (h j)) y ∙ takes (suc i) (omega arith) e),
    )
joined_by f g n h (false ∷ bs) b gives takes =
    let z : b + 0 ≡ b = omega arith in (
      ap (λ i. g (h i)) (sym z) ∙ takes 0 (omega arith) refl,
      joined_by f g n h bs (b + 1)
          (λ i low e. let y : b + 1 + i ≡ b + suc i = omega arith in ap (λ j. f (h j)) y ∙ gives (suc i) (omega arith) e)
          (λ i low e. let y : b + 1 + i ≡ b + suc i = omega arith in ap (λ j. g (h j)) y ∙ takes (suc i) (omega arith) e),
    )

pub filter_short : {A : Type 0} (q : A → Bool) (xs : List A) → length (filter q xs) ≤ length xs
filter_short q [] = omega arith
filter_short q (x ∷ xs) = at (q x) (filter_short q xs)
  where
    at : (b : Bool) → length (filter q xs) ≤ length xs → length (if b then x ∷ filter q xs else filter q xs) ≤ suc (length xs)
    at true e = omega arith
    at false e = omega arith

range_long : (b k : ℕ) → length (range_with_len b k) ≡ k
range_long b zero = refl
range_long b (suc k) = ap suc (range_long (b + 1) k)

module _ (r : Parts) (T : List ℕ → Type 0) (fine : Fine r T) (sane : Sane (plan_of r T)) where
  abbrev G : Wire → Type 0
  G w = There (plan_of r T) w

  abbrev K : Name → Type 0
  K n = is_kept r n ≡ true

  -- ---- the nodes of the chart

  abbrev Part : Name → Type 0
  Part Env = ⊥
  Part Join = K Join
  Part (Tog p) = depth p < r.levels
  Part (Gate y) = (y ≡ 0) × K (Gate y)
  Part (Spread y) = (y < pow r.levels) × K (Spread y)
  Part (Shows a) = (a < count r) × (is_out r a ≡ true) × K (Shows a)

  abbrev joins : List Name
  joins = filter (is_kept r) (Join ∷ [])

  abbrev trees : List Name
  trees = each (toggles r) r.levels

  abbrev gates : List Name
  gates = filter (is_kept r) (Gate 0 ∷ [])

  abbrev spreads : List Name
  spreads = filter (is_kept r) (map Spread (range_with_len 0 (pow r.levels)))

  abbrev merges : List Name
  merges = map Shows (filter (λ a. is_out r a && not (is_single (givers r a))) (range_with_len 0 (count r)))

  join_is : (n : Name) → Among n joins → (n ≡ Join) × K Join
  join_is n h = let (a, k) = filter_among (is_kept r) (Join ∷ []) n h in elim a [ inl e ↦ (e, subst K e k) | inr z ↦ absurd z ]

  tree_is : (n : Name) → Among n trees → (d : ℕ) × (i : ℕ) × (d < r.levels) × (i < pow d) × (n ≡ Tog (leaf d i))
  tree_is n h =
      let (d, low, a) = among_each (toggles r) r.levels n h in
      let (i, b, e) = map_among (λ i. Tog (leaf d i)) (range_with_len 0 (pow d)) n a in
      (d, i, low, range_low (pow d) i b, e)

  gate_is : (n : Name) → Among n gates → (n ≡ Gate 0) × K (Gate 0)
  gate_is n h = let (a, k) = filter_among (is_kept r) (Gate 0 ∷ []) n h in elim a [ inl e ↦ (e, subst K e k) | inr z ↦ absurd z ]

  spread_is : (n : Name) → Among n spreads → (y : ℕ) × (y < pow r.levels) × K (Spread y) × (n ≡ Spread y)
  spread_is n h =
      let (a, k) = filter_among (is_kept r) (map Spread (range_with_len 0 (pow r.levels))) n h in
      let (y, b, e) = map_among Spread (range_with_len 0 (pow r.levels)) n a in
      (y, range_low (pow r.levels) y b, subst K e k, e)

  merge_is : (n : Name) → Among n merges → (a : ℕ) × (a < count r) × (is_out r a ≡ true) × K (Shows a) × (n ≡ Shows a)
  merge_is n h =
      let (a, b, e) = map_among Shows (filter (λ a. is_out r a && not (is_single (givers r a))) (range_with_len 0 (count r))) n h in
      let (i, k) = filter_among (λ a. is_out r a && not (is_single (givers r a))) (range_with_len 0 (count r)) a b in
      let (yes_out, kept) = and_parts (is_out r a) (not (is_single (givers r a))) k in
      (a, range_low (count r) a i, yes_out, kept, e)

  part_is : (n : Name) → Among n (parts r) → Part n
  part_is n h = elim (among_either n joins (trees ++ (gates ++ (spreads ++ merges))) h) [
    | inl a ↦ let (e, k) = join_is n a in subst Part (sym e) k
    | inr b ↦ elim (among_either n trees (gates ++ (spreads ++ merges)) b) [
      | inl a ↦ let (d, i, low, less, e) = tree_is n a in subst Part (sym e) (let z : depth (leaf d i) < r.levels = omega (arith, leaf_deep d i) in z)
      | inr c ↦ elim (among_either n gates (spreads ++ merges) c) [
        | inl a ↦ let (e, k) = gate_is n a in subst Part (sym e) (refl, k)
        | inr d ↦ elim (among_either n spreads merges d) [
          | inl a ↦ let (y, low, k, e) = spread_is n a in subst Part (sym e) (low, k)
          | inr a ↦ let (s, low, o, k, e) = merge_is n a in subst Part (sym e) (low, o, k)
        ]
      ]
    ]
  ]

  part_in : (n : Name) → Part n → Among n (parts r)
  part_in Env h = absurd h
  part_in Join h = among_left Join joins (trees ++ (gates ++ (spreads ++ merges))) (among_filter (is_kept r) (Join ∷ []) Join (inl refl) h)
  part_in (Tog p) h = among_right (Tog p) joins (trees ++ (gates ++ (spreads ++ merges))) (among_left (Tog p) trees (gates ++ (spreads ++ merges))
      (each_among (toggles r) r.levels (depth p) (Tog p) h
      (subst (λ n. Among n (toggles r (depth p))) (ap Tog (first_leaf p)) (among_map (λ i. Tog (leaf (depth p) i)) (range_with_len 0 (pow (depth p))) (first_at p)
      (range_in r T fine sane (pow (depth p)) (first_at p) (first_low p))))))
  part_in (Gate y) h = among_right (Gate y) joins (trees ++ (gates ++ (spreads ++ merges))) (among_right (Gate y) trees (gates ++ (spreads ++ merges))
      (among_left (Gate y) gates (spreads ++ merges) (among_filter (is_kept r) (Gate 0 ∷ []) (Gate y) (inl (ap Gate h.0)) h.1)))
  part_in (Spread y) h = among_right (Spread y) joins (trees ++ (gates ++ (spreads ++ merges))) (among_right (Spread y) trees (gates ++ (spreads ++ merges))
      (among_right (Spread y) gates (spreads ++ merges) (among_left (Spread y) spreads merges
      (among_filter (is_kept r) (map Spread (range_with_len 0 (pow r.levels))) (Spread y)
      (among_map Spread (range_with_len 0 (pow r.levels)) y (range_in r T fine sane (pow r.levels) y h.0)) h.1))))
  part_in (Shows a) h = among_right (Shows a) joins (trees ++ (gates ++ (spreads ++ merges))) (among_right (Shows a) trees (gates ++ (spreads ++ merges))
      (among_right (Shows a) gates (spreads ++ merges) (among_right (Shows a) spreads merges
      (among_map Shows (filter (λ a. is_out r a && not (is_single (givers r a))) (range_with_len 0 (count r))) a
      (among_filter (λ a. is_out r a && not (is_single (givers r a))) (range_with_len 0 (count r)) a (range_in r T fine sane (count r) a h.0)
      (and_from (is_out r a) (not (is_single (givers r a))) h.1 h.2))))))

  part_all : (P : Name → Type 0) → ((n : Name) → Part n → P n) → AllByRecursion P (parts r)
  part_all P f = all_of P (parts r) (λ n a. f n (part_is n a))

  parts_once : Distinct (Env ∷ parts r)
  parts_once = (
    (λ h. part_is Env h),
    distinct_both joins (trees ++ (gates ++ (spreads ++ merges))) (distinct_filter (is_kept r) (Join ∷ []) ((λ z. z), tt))
        (distinct_both trees (gates ++ (spreads ++ merges)) trees_once
        (distinct_both gates (spreads ++ merges) (distinct_filter (is_kept r) (Gate 0 ∷ []) ((λ z. z), tt))
        (distinct_both spreads merges
        (distinct_filter (is_kept r) (map Spread (range_with_len 0 (pow r.levels))) (distinct_map Spread (range_with_len 0 (pow r.levels)) (λ y z i j e. cc) (range_once (pow r.levels))))
        (distinct_map Shows (filter (λ a. is_out r a && not (is_single (givers r a))) (range_with_len 0 (count r))) (λ y z i j e. cc)
        (distinct_filter (λ a. is_out r a && not (is_single (givers r a))) (range_with_len 0 (count r)) (range_once (count r))))
        (λ x a b. omega (arith, ap label (spread_is x a).3, ap label (merge_is x b).4)))
        (λ x a b. elim (among_either x spreads merges b) [
          | inl c ↦ omega (arith, ap label (gate_is x a).0, ap label (spread_is x c).3)
          | inr c ↦ omega (arith, ap label (gate_is x a).0, ap label (merge_is x c).4)
        ]))
        (λ x a b. elim (among_either x gates (spreads ++ merges) b) [
          | inl c ↦ omega (arith, ap label (tree_is x a).4, ap label (gate_is x c).0)
          | inr d ↦ elim (among_either x spreads merges d) [
            | inl c ↦ omega (arith, ap label (tree_is x a).4, ap label (spread_is x c).3)
            | inr c ↦ omega (arith, ap label (tree_is x a).4, ap label (merge_is x c).4)
          ]
        ]))
        (λ x a b. elim (among_either x trees (gates ++ (spreads ++ merges)) b) [
          | inl c ↦ omega (arith, ap label (join_is x a).0, ap label (tree_is x c).4)
          | inr d ↦ elim (among_either x gates (spreads ++ merges) d) [
            | inl c ↦ omega (arith, ap label (join_is x a).0, ap label (gate_is x c).0)
            | inr f ↦ elim (among_either x spreads merges f) [
              | inl c ↦ omega (arith, ap label (join_is x a).0, ap label (spread_is x c).3)
              | inr c ↦ omega (arith, ap label (join_is x a).0, ap label (merge_is x c).4)
            ]
          ]
        ]),
  )
    where
      tog_one : (p q : Path) → Tog p ≡ Tog q → p ≡ q
      tog_one p q e = cc

      trees_once : Distinct trees
      trees_once = distinct_each (toggles r) r.levels
          (λ d low. distinct_map (λ i. Tog (leaf d i)) (range_with_len 0 (pow d)) (λ x y i j e.
          sym (leaf_first d x (range_low (pow d) x i)) ∙ ap first_at (tog_one (leaf d x) (leaf d y) e) ∙ leaf_first d y (range_low (pow d) y j)) (range_once (pow d)))
          (λ d q x a b.
          let (i, j, e) = map_among (λ i. Tog (leaf d i)) (range_with_len 0 (pow d)) x a in
          let (k, l, f) = map_among (λ i. Tog (leaf q i)) (range_with_len 0 (pow q)) x b in
          omega (arith, ap depth (tog_one (leaf d i) (leaf q k) (sym e ∙ f)), leaf_deep d i, leaf_deep q k))

  is_not : (b : Bool) → not b ≡ true → b ≡ false
  is_not true e = absurd (true≢false (sym e))
  is_not false e = refl

  -- ---- widths

  burst_wide : K Join → 2 ≤ length r.burst
  burst_wide k = several r.burst (is_not (is_single r.burst) k) fine.burst_some

  outs_wide : (y : ℕ) → y < pow r.levels → K (Spread y) → 2 ≤ length (r.outs y)
  outs_wide y low k = several (r.outs y) (is_not (is_single (r.outs y)) k) (fine.outs_some y low)

  givers_some : (a : ℕ) → a < count r → is_out r a ≡ true → 0 < length (givers r a)
  givers_some a low yes_out = let (y, less, gives) = fine.covers_out a low yes_out in at (givers r a) (in_givers r T fine sane a y less gives)
    where
      at : (ys : List ℕ) → Among (fine.covers_out a low yes_out).0 ys → 0 < length ys
      at [] h = absurd h
      at (y ∷ ys) h = omega arith

  givers_wide : (a : ℕ) → a < count r → is_out r a ≡ true → K (Shows a) → 2 ≤ length (givers r a)
  givers_wide a low yes_out k = several (givers r a) (is_not (is_single (givers r a)) k) (givers_some a low yes_out)

  givers_few : (a : ℕ) → length (givers r a) < 2 ^ 27
  givers_few a = omega (arith, filter_short (λ y. is_in a (r.outs y)) (range_with_len 0 (pow r.levels)), range_long 0 (pow r.levels), fine.acts_few)

  formed : (n : Name) → Part n → IsFormed (spec_of r n)
  formed Env h = absurd h
  formed Join h = record { wide = burst_wide h; few = omega (arith, fine.burst_narrow) }
  formed (Tog p) h = record { wide = tt; few = omega arith }
  formed (Gate y) h = record { wide = tt; few = omega arith }
  formed (Spread y) h = record { wide = outs_wide y h.0 h.1; few = omega (arith, fine.outs_narrow y h.0) }
  formed (Shows a) h = record { wide = givers_wide a h.0 h.1 h.2; few = omega (arith, givers_few a) }

  basic : (n : Name) → Part n → IsTrue (is_kind (spec_of r n))
  basic Env h = absurd h
  basic Join h = refl
  basic (Tog p) h = refl
  basic (Gate y) h = refl
  basic (Spread y) h = refl
  basic (Shows a) h = refl

  gate_zero : (y : ℕ) → Part (Gate y) → y < pow r.levels
  gate_zero y h = omega (arith, h.0, pow_some r.levels)

  entry_gate : (y : ℕ) → y < pow r.levels → receiver (plan_of r T) (To (entry r y)) ≡ Gate y
  entry_gate y low = to_gate (plan_of r T) (entry r y) (sane.entry_deep y low) ∙ ap Gate (sane.act_back y low)

  inner : (n : Name) → Part n → Joined driver (receiver (plan_of r T)) n (outs_of (spec_of r n)) (ports r n)
  inner Env h = absurd h
  inner Join h = joined_both driver (receiver (plan_of r T)) Join (replicate (length r.burst) false) (true ∷ []) (map Sym r.burst) (To Top ∷ [])
      (joined_ins driver (receiver (plan_of r T)) Join (length r.burst) (map Sym r.burst) (length-map r.burst Sym)
      (all_of (λ w. receiver (plan_of r T) w ≡ Join) (map Sym r.burst) (λ w a. let (b, i, e) = map_among Sym r.burst w a in ap (receiver (plan_of r T)) e))) (refl, tt)
  inner (Tog p) h = (to_tog (plan_of r T) p h, (refl, (refl, tt)))
  inner (Gate y) h = (entry_gate y (gate_zero y h), (refl, tt))
  inner (Spread y) h = (
    refl,
    joined_outs driver (receiver (plan_of r T)) (Spread y) (length (r.outs y)) (map (Put y) (r.outs y)) (length-map (r.outs y) (Put y))
        (all_of (λ w. driver w ≡ Spread y) (map (Put y) (r.outs y)) (λ w a. let (b, i, e) = map_among (Put y) (r.outs y) w a in ap driver e)),
  )
  inner (Shows a) h = joined_both driver (receiver (plan_of r T)) (Shows a) (replicate (length (givers r a)) false) (true ∷ []) (map (λ y. Put y a) (givers r a)) (Out a ∷ [])
      (joined_ins driver (receiver (plan_of r T)) (Shows a) (length (givers r a)) (map (λ y. Put y a) (givers r a)) (length-map (givers r a) (λ y. Put y a))
      (all_of (λ w. receiver (plan_of r T) w ≡ Shows a) (map (λ y. Put y a) (givers r a)) (λ w i. let (y, j, e) = map_among (λ y. Put y a) (givers r a) w i in ap (receiver (plan_of r T)) e)))
      (refl, tt)

  outer_joined : Joined (receiver (plan_of r T)) driver Env (outs_of r.spec) (outer_ports r)
  outer_joined = joined_by (receiver (plan_of r T)) driver Env (outer r) (outs_of r.spec) 0
      (λ i low e. let z : 0 + i ≡ i = omega arith in ap (λ j. receiver (plan_of r T) (outer r j)) z ∙ ap (λ b. receiver (plan_of r T) (if b then Out i else Sym i)) e)
      (λ i low e. let z : 0 + i ≡ i = omega arith in ap (λ j. driver (outer r j)) z ∙ ap (λ b. driver (if b then Out i else Sym i)) e)

  once : (n : Name) → Part n → Distinct (ports r n)
  once Env h = absurd h
  once Join h = join_once r T fine sane
  once (Tog p) h = tog_once r T fine sane p h
  once (Gate y) h = gate_once r T fine sane y (gate_zero y h) h.1
  once (Spread y) h = spread_once r T fine sane y h.0
  once (Shows a) h = shows_once r T fine sane a (givers_some a h.0 h.1)

  part_kept : (n : Name) → Part n → K n
  part_kept Env h = absurd h
  part_kept Join h = h
  part_kept (Tog p) h = lt-ltb (depth p) r.levels h
  part_kept (Gate y) h = h.1
  part_kept (Spread y) h = h.1
  part_kept (Shows a) h = h.2

  there : (n : Name) → Part n → AllByRecursion (There (plan_of r T)) (ports r n)
  there Env h = absurd h
  there Join h = all_of G (ports r Join) (λ w a. elim (among_either w (map Sym r.burst) (To Top ∷ []) a) [
    | inl b ↦ let (s, i, e) = map_among Sym r.burst w b in subst G (sym e) (among_in s r.burst i)
    | inr b ↦ elim b [ inl e ↦ subst G (sym e) (let z : 0 ≤ r.levels = omega arith in z) | inr z ↦ absurd z ]
  ])
  there (Tog p) h = (omega arith, (omega arith, (omega arith, tt)))
  there (Gate y) h = let low = gate_zero y h in (omega (arith, sane.entry_deep y low), (low, tt))
  there (Spread y) h = (h.0, all_of G (map (Put y) (r.outs y)) (λ w a. let (b, i, e) = map_among (Put y) (r.outs y) w a in subst G (sym e) (h.0, among_in b (r.outs y) i)))
  there (Shows a) h = all_of G (ports r (Shows a)) (λ w i. elim (among_either w (map (λ y. Put y a) (givers r a)) (Out a ∷ []) i) [
    | inl b ↦
        let (y, j, e) = map_among (λ y. Put y a) (givers r a) w b in
        let (k, gives) = filter_among (λ y. is_in a (r.outs y)) (range_with_len 0 (pow r.levels)) y j in
        subst G (sym e) (range_low (pow r.levels) y k, gives)
    | inr b ↦ elim b [ inl e ↦ subst G (sym e) (fine.covers_out a h.0 h.1) | inr z ↦ absurd z ]
  ])

  may : (n : Name) → Part n → (t : List ℕ) → May (spec_of r n) t ↔ webs.May (web (plan_of r T)) n (map (λ p. get_or (ports r n) p (nothing r T fine sane)) t)
  may Env h = absurd h
  may Join h = join_may r T fine sane (burst_wide h)
  may (Tog p) h = tog_may r T fine sane p h
  may (Gate y) h = gate_may r T fine sane y (gate_zero y h) h.1
  may (Spread y) h = spread_may r T fine sane y h.0 (outs_wide y h.0 h.1)
  may (Shows a) h = shows_may r T fine sane a (givers_some a h.0 h.1) (givers_wide a h.0 h.1 h.2)

  -- ---- each wire at its nodes

  driven : (w : Wire) → G w → K (driver w) → Among (driver w) (Env ∷ parts r) × Among w (ports r (driver w))
  driven (Sym a) h k = (inl refl, sym_outer r T fine sane a h)
  driven (To Top) h k = (inr (part_in Join k), among_right (To Top) (map Sym r.burst) (To Top ∷ []) (inl refl))
  driven (To (Odd p)) h k = (inr (part_in (Tog p) (ltb-true (depth p) r.levels k)), inr (inl refl))
  driven (To (Even p)) h k = (inr (part_in (Tog p) (ltb-true (depth p) r.levels k)), inr (inr (inl refl)))
  driven (Go y) h k = (inr (part_in (Gate y) (eqb-true y 0 (and_parts r.opens (nat_eq y 0) k).1, k)), inr (inl refl))
  driven (Put y a) h k = (inr (part_in (Spread y) (h.0, k)), inr (among_map (Put y) (r.outs y) a (in_among a (r.outs y) h.1)))
  driven (Out a) (y, low, gives) k =
      let (less, yes_out) = fine.outs_in y a low gives in
      (inr (part_in (Shows a) (less, yes_out, k)), among_right (Out a) (map (λ y. Put y a) (givers r a)) (Out a ∷ []) (inl refl))

  received : (w : Wire) → G w → K (receiver (plan_of r T) w) → Among (receiver (plan_of r T) w) (Env ∷ parts r) × Among w (ports r (receiver (plan_of r T) w))
  received (Sym a) h k = (inr (part_in Join k), among_left (Sym a) (map Sym r.burst) (To Top ∷ []) (among_map Sym r.burst a (in_among a r.burst h)))
  received (To p) h k = elim (cases_eq (depth p) r.levels) [
    | inl deep ↦
        let is : receiver (plan_of r T) (To p) ≡ Gate (act_at r p) = to_gate (plan_of r T) p deep in
        let kept : K (Gate (act_at r p)) = subst K is k in
        subst (λ n. Among n (Env ∷ parts r) × Among (To p) (ports r n)) (sym is) (
          inr (part_in (Gate (act_at r p)) (eqb-true (act_at r p) 0 (and_parts r.opens (nat_eq (act_at r p) 0) kept).1, kept)),
          inl (ap To (sym (sane.entry_back p deep))),
        )
    | inr inside ↦
        let less : depth p < r.levels = omega arith in
        subst (λ n. Among n (Env ∷ parts r) × Among (To p) (ports r n)) (sym (to_tog (plan_of r T) p less)) (inr (part_in (Tog p) less), inl refl)
  ]
  received (Go y) h k = (inr (part_in (Spread y) (h, k)), inl refl)
  received (Put y a) h k =
      let (less, yes_out) = fine.outs_in y a h.0 h.1 in
      (inr (part_in (Shows a) (less, yes_out, k)), among_left (Put y a) (map (λ y. Put y a) (givers r a)) (Out a ∷ []) (among_map (λ y. Put y a) (givers r a) y (in_givers r T fine sane a y h.0 h.1)))
  received (Out a) h k = (inl refl, out_outer r T fine sane a h)

  -- no path leads from a node to itself
  abbrev Late : Wire → Type 0
  Late (Sym a) = ⊥
  Late (To p) = ⊥
  Late (Go y) = Unit {0}
  Late (Put y a) = Unit {0}
  Late (Out a) = Unit {0}

  late_join : (w : Wire) → Late w → Join ≡ receiver (plan_of r T) w → ⊥
  late_join (Sym a) l e = l
  late_join (To p) l e = l
  late_join (Go y) l e = cc
  late_join (Put y a) l e = cc
  late_join (Out a) l e = cc

  late_tog : (p : Path) (w : Wire) → Late w → Tog p ≡ receiver (plan_of r T) w → ⊥
  late_tog p (Sym a) l e = l
  late_tog p (To q) l e = l
  late_tog p (Go y) l e = cc
  late_tog p (Put y a) l e = cc
  late_tog p (Out a) l e = cc

  late_gate : (y : ℕ) (w : Wire) → Late w → Gate y ≡ receiver (plan_of r T) w → ⊥
  late_gate y (Sym a) l e = l
  late_gate y (To q) l e = l
  late_gate y (Go z) l e = cc
  late_gate y (Put z a) l e = cc
  late_gate y (Out a) l e = cc

  late_put : (y a : ℕ) → Late (on_put r y a)
  late_put y a = at (is_single (givers r a))
    where
      at : (b : Bool) → Late (if b then Out a else Put y a)
      at true = tt
      at false = tt

  late_go : (y : ℕ) → Late (on_go r y)
  late_go y = at (is_single (r.outs y))
    where
      at : (b : Bool) → Late (if b then on_put r y (sole (r.outs y)) else Go y)
      at true = late_put y (sole (r.outs y))
      at false = tt

  on_to : (p : Path) → (on r (To p) ≡ To p) ⊎ Late (on r (To p))
  on_to p = at (nat_eq (depth p) r.levels) (begins_process r (act_at r p))
    where
      at : (b c : Bool) → ((if b then (if c then To p else on_go r (act_at r p)) else To p) ≡ To p) ⊎ Late (if b then (if c then To p else on_go r (act_at r p)) else To p)
      at true true = inl refl
      at true false = inr (late_go (act_at r p))
      at false c = inl refl

  apart : (w : Wire) → driver w ≡ receiver (plan_of r T) (on r w) → ⊥
  apart (Sym a) e = at (is_single r.burst) e
    where
      at : (b : Bool) → Env ≡ receiver (plan_of r T) (if b then To Top else Sym a) → ⊥
      at true z = let y : Env ≡ Tog Top = z ∙ to_tog (plan_of r T) Top fine.some_levels in cc
      at false z = cc
  apart (To Top) e = elim (on_to Top) [
    | inl same ↦ clean (plan_of r T) (To Top) (e ∙ ap (receiver (plan_of r T)) same)
    | inr late ↦ late_join (on r (To Top)) late e
  ]
  apart (To (Odd p)) e = elim (on_to (Odd p)) [
    | inl same ↦ clean (plan_of r T) (To (Odd p)) (e ∙ ap (receiver (plan_of r T)) same)
    | inr late ↦ late_tog p (on r (To (Odd p))) late e
  ]
  apart (To (Even p)) e = elim (on_to (Even p)) [
    | inl same ↦ clean (plan_of r T) (To (Even p)) (e ∙ ap (receiver (plan_of r T)) same)
    | inr late ↦ late_tog p (on r (To (Even p))) late e
  ]
  apart (Go y) e = late_gate y (on r (Go y)) (late_go y) e
  apart (Put y a) e = at (is_single (givers r a)) e
    where
      at : (b : Bool) → Spread y ≡ receiver (plan_of r T) (if b then Out a else Put y a) → ⊥
      at true z = cc
      at false z = cc
  apart (Out a) e = cc

  numbers : map (λ w. position_or_len (same (back r w)) (lines r)) (lines r) ≡ range_with_len 0 (length (lines r))
  numbers =
      map_same (λ w. position_or_len (same (back r w)) (lines r)) (λ w. position_or_len (same w) (lines r)) (lines r)
      (λ w a. let (h, k) = line_is r T fine sane w a in ap (λ v. position_or_len (same v) (lines r)) (back_same r T fine sane w h k))
      ∙ places_are same same_one same_self (nothing r T fine sane) (lines r) (lines_once r T fine sane)

  decide : (n : Name) → K n ⊎ (K n → ⊥)
  decide n = elim (cases_Bool (is_kept r n)) [ inl e ↦ inl e | inr e ↦ inr (λ k. true≢false (sym k ∙ e)) ]

  routes : Routes Name Wire (web (plan_of r T)) K G (rounds_chart r) (lines r) (back r) (λ w. w) (on r) (nothing r T fine sane)
  routes = record {
    env = refl;
    nodes = parts_once;
    formed = (fine.formed, part_all (λ n. IsFormed (spec_of r n)) formed);
    outer = outer_joined;
    inner = part_all (λ n. Joined driver (receiver (plan_of r T)) n (outs_of (spec_of r n)) (ports r n)) inner;
    distinct = (outer_once r T fine sane, part_all (λ n. Distinct (ports r n)) once);
    kept = (refl, part_all K part_kept);
    there = (
      all_of G (outer_ports r) (λ w a.
          let (i, b, e) = map_among (outer r) (range_with_len 0 (count r)) w a in
          subst G (sym e) (outer_there r T fine sane (outer r i) (outer_at r T fine sane i (range_low (count r) i b)))),
      part_all (λ n. AllByRecursion G (ports r n)) there,
    );
    driven = driven;
    received = received;
    numbers = numbers;
    number_root = λ w h. ap (λ v. position_or_len (same v) (lines r)) (sym (back_is r T fine sane w h).2);
    begins = λ w h k. (subst (λ v. Among v (lines r)) (sym (back_same r T fine sane w h k)) (line_in r T fine sane w h k), back_same r T fine sane w h k);
    ends = λ w h k. (let b = back_is r T fine sane w h in line_in r T fine sane (back r w) b.0 b.1, on_back r T fine sane w h k);
    firsts = all_of (λ v. G v × K (driver v) × (back r v ≡ v)) (lines r) (λ v a. let (h, k) = line_is r T fine sane v a in (h, k, back_same r T fine sane v h k));
    lasts = all_of (λ v. G (on r v) × K (receiver (plan_of r T) (on r v)) × (back r (on r v) ≡ v)) (lines r) (λ v a.
        let (h, k) = line_is r T fine sane v a in
        let l = last_of r T fine sane v h in
        (l.there, l.kept, l.back_to ∙ back_same r T fine sane v h k));
    path = all_of _ (lines r) (λ v a. (last_of r T fine sane v (line_is r T fine sane v a).0).way);
    apart = all_of (λ v. driver v ≡ receiver (plan_of r T) (on r v) → ⊥) (lines r) (λ v a. apart v);
    real_out = λ w t k. k.0;
    real_in = λ w t k. k.0;
    enters = λ w h. decide (driver w);
    leaves = λ w h. decide (receiver (plan_of r T) w);
    never = λ n t k. (let z : pow r.levels < pow r.levels = k.0 in omega arith);
    may = (env_may r T fine sane, part_all (λ n. (t : List ℕ) → May (spec_of r n) t ↔ webs.May (web (plan_of r T)) n (map (λ p. get_or (ports r n) p (nothing r T fine sane)) t)) may);
  }

  pub rounds_right : WebSound (web (plan_of r T)) → WebExact (web (plan_of r T)) → Implements (charted (rounds_chart r)) r.spec
  rounds_right sound exact = record {
    basic = routes_basic Name Wire (web (plan_of r T)) K G (rounds_chart r) (lines r) (back r) (λ w. w) (on r) (nothing r T fine sane) (lawful (plan_of r T)) routes
        (part_all (λ n. IsTrue (is_kind (spec_of r n))) basic);
    clean = routes_clean Name Wire (web (plan_of r T)) K G (rounds_chart r) (lines r) (back r) (λ w. w) (on r) (nothing r T fine sane) (lawful (plan_of r T)) routes;
    correct = routes_correct Name Wire (web (plan_of r T)) K G (rounds_chart r) (lines r) (back r) (λ w. w) (on r) (nothing r T fine sane) (lawful (plan_of r T)) routes sound exact;
  }

  -- the wire at the port of a symbol has the number of the symbol
  pub outer_number : (a : ℕ) → a < count r → position_or_len (same (back r (outer r a))) (lines r) ≡ a
  outer_number a low =
      let none : Wire = nothing r T fine sane in
      let long : length (outer_ports r) ≡ count r = length-map-range_with_len (outer r) 0 (count r) in
      let wide : length (map (back r) (outer_ports r)) ≡ count r = length-map (outer_ports r) (back r) ∙ long in
      let at : get_or (lines r) a none ≡ back r (outer r a) =
      get_or_append_left (map (back r) (outer_ports r)) (filter (λ w. ends_inside (on r w)) (inner_wires r)) none a (omega arith)
      ∙ get_or-map (back r) (outer_ports r) a none none (omega arith) ∙ ap (back r) (get_or-map-range_with_len (outer r) 0 (count r) a a none low (omega arith)) in
      let inside : a < length (lines r) = omega (arith, length-append (map (back r) (outer_ports r)) (filter (λ w. ends_inside (on r w)) (inner_wires r))) in
      ap (λ v. position_or_len (same v) (lines r)) (sym at) ∙ place_at same same_one same_self none (lines r) (lines_once r T fine sane) a inside
