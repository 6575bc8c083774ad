-- Where the nodes of a network and of its part stand in the spliced network.
use Rattle.std.proofs.Common.{false, ◌≡◌, ◌≢◌, ◌⊎◌, ◌↔◌, inl, inr, ℕ, zero, suc, ◌+◌, ◌-◌, ◌*◌, ◌<◌, ◌≤◌, Bool, true, List, [], ◌∷◌, ◌++◌, length, map, take, drop, refl, sym, ap, ◌∙◌, subst, arith, if◌then◌else◌, ltb, lt-ltb, le-ltb, ne_eqb, eq-eqb, length-drop, length-append}
use Rattle.std.specs.Prelude.{slice_get, option_map, nat_eq}
use Rattle.std.proofs.lemmas.Bool.{cases_lt, cases_eq}
use Rattle.std.proofs.lemmas.Option.{slice_get-map, slice_get_past}
use Rattle.std.proofs.lemmas.List.{length-map}
use Rattle.substitute.specs.Splice.{renumber, spliced, Fitting}
use Rattle.net_core.specs.Wiring.{Node, Circuit, IsWired, moved}
use Rattle.net_core.specs.Networks.{directions_at, directions, gives, takes, end_of, end_at, may_of}
use Rattle.net_core.proofs.Moved.{directions_same, directions_moved, may_moved, end_moved}
use Rattle.net_core.proofs.Ends.{side_of}
use Rattle.net_core.proofs.Found.{port_within, all_nodes}

get_before : {X : Type 0} (xs ys : List X) (n : ℕ) → n < length xs → slice_get (xs ++ ys) n ≡ slice_get xs n
get_before [] ys n h = absurd (omega arith)
get_before (x ∷ xs) ys zero h = refl
get_before (x ∷ xs) ys (suc n) h = get_before xs ys n (omega arith)

get_after : {X : Type 0} (xs ys : List X) (n k : ℕ) → n ≡ length xs + k → slice_get (xs ++ ys) n ≡ slice_get ys k
get_after [] ys n k e = ap (slice_get ys) (let f : n ≡ k = omega arith in f)
get_after (x ∷ xs) ys zero k e = absurd (omega arith)
get_after (x ∷ xs) ys (suc n) k e = get_after xs ys n k (omega arith)

get_take : {X : Type 0} (k : ℕ) (xs : List X) (n : ℕ) → n < k → slice_get (take k xs) n ≡ slice_get xs n
get_take zero xs n h = absurd (omega arith)
get_take (suc k) [] n h = refl
get_take (suc k) (x ∷ xs) zero h = refl
get_take (suc k) (x ∷ xs) (suc n) h = get_take k xs n (omega arith)

get_drop : {X : Type 0} (k : ℕ) (xs : List X) (i n : ℕ) → n ≡ k + i → slice_get (drop k xs) i ≡ slice_get xs n
get_drop zero xs i n e = ap (slice_get xs) (let f : i ≡ n = omega arith in f)
get_drop (suc k) [] i n e = refl
get_drop (suc k) (x ∷ xs) i zero e = absurd (omega arith)
get_drop (suc k) (x ∷ xs) i (suc n) e = get_drop k xs i n (omega arith)

length_take : {X : Type 0} (k : ℕ) (xs : List X) → k ≤ length xs → length (take k xs) ≡ k
length_take zero xs h = refl
length_take (suc k) [] h = absurd (omega arith)
length_take (suc k) (x ∷ xs) h = ap suc (length_take k xs (omega arith))

-- The number of c's node n in the result. Numbers past the end go past its end, apart from those of the part.
pub net_place : Circuit → ℕ → Circuit → ℕ → ℕ
net_place c a m n = if ltb n a then n
    else if ltb n (length c.nodes) then (n + length m.nodes) - 2
    else ((length m.nodes + 2 * n) - length c.nodes) - 2

-- the number of m's node n in the result
pub part_place : Circuit → ℕ → Circuit → ℕ → ℕ
part_place c a m n = if ltb n (length m.nodes) then (a + n) - 1
    else ((length c.nodes + 2 * n) - length m.nodes) - 1

-- m's components in the result
abbrev middle : Circuit → ℕ → Circuit → List Node
middle c a m = map (moved (renumber c a m)) (drop 1 m.nodes)

module _ (c : Circuit) (a : ℕ) (m : Circuit) (fit : Fitting c a m) where
  pub net_cases : (n : ℕ) → ((n < a) × (net_place c a m n ≡ n))
      ⊎ (((a ≤ n) × (n < length c.nodes) × (net_place c a m n + 2 ≡ n + length m.nodes))
      ⊎ ((length c.nodes ≤ n) × (net_place c a m n + 2 + length c.nodes ≡ length m.nodes + 2 * n)))
  unfolding net_place
  net_cases n = elim (cases_lt n a) [
    | inl l ↦ inl (l, rw (lt-ltb n a l) refl)
    | inr g ↦ elim (cases_lt n (length c.nodes)) [
      | inl l ↦ inr (inl (g, l, rw (le-ltb n a g, lt-ltb n (length c.nodes) l) (let some = fit.some in let comp = fit.component in omega arith)))
      | inr h ↦ inr (inr (h, rw (le-ltb n a g, le-ltb n (length c.nodes) h) (let some = fit.some in let comp = fit.component in let ins = fit.inside in omega arith)))
    ]
  ]

  pub part_cases : (n : ℕ) → ((n < length m.nodes) × (part_place c a m n + 1 ≡ a + n))
      ⊎ ((length m.nodes ≤ n) × (part_place c a m n + 1 + length m.nodes ≡ length c.nodes + 2 * n))
  unfolding part_place
  part_cases n = elim (cases_lt n (length m.nodes)) [
    | inl l ↦ inl (l, rw (lt-ltb n (length m.nodes) l) (let comp = fit.component in omega arith))
    | inr g ↦ inr (g, rw (le-ltb n (length m.nodes) g) (let ins = fit.inside in omega arith))
  ]

  pub net_alone : (n k : ℕ) → n ≢ a → k ≢ a → net_place c a m n ≡ net_place c a m k → n ≡ k
  net_alone n k g h e = let x = net_cases n in let y = net_cases k in let some = fit.some in let ins = fit.inside in omega arith

  pub part_alone : (n k : ℕ) → ◌≢◌ {A = ℕ} n 0 → ◌≢◌ {A = ℕ} k 0 → part_place c a m n ≡ part_place c a m k → n ≡ k
  part_alone n k g h e = let x = part_cases n in let y = part_cases k in let some = fit.some in let ins = fit.inside in omega arith

  pub places_apart : (n k : ℕ) → n ≢ a → ◌≢◌ {A = ℕ} k 0 → net_place c a m n ≢ part_place c a m k
  places_apart n k g h e = let x = net_cases n in let y = part_cases k in let some = fit.some in let ins = fit.inside in omega arith

  pub net_zero : net_place c a m 0 ≡ 0
  net_zero = let x = net_cases 0 in let comp = fit.component in omega arith

  part_above : (n : ℕ) → ◌≢◌ {A = ℕ} n 0 → ◌≢◌ {A = ℕ} (part_place c a m n) 0
  part_above n h e = let x = part_cases n in let comp = fit.component in let ins = fit.inside in omega arith

  pub decode : (n : ℕ) → n + 2 < length c.nodes + length m.nodes
      → ((k : ℕ) × (k ≢ a) × (n ≡ net_place c a m k)) ⊎ ((k : ℕ) × (k ≢ 0) × (n ≡ part_place c a m k))
  decode n l = elim (cases_lt n a) [
    | inl h ↦ inl (n, (λ e. omega arith), (let x = net_cases n in omega arith))
    | inr h ↦ elim (cases_lt (suc n) (a + length m.nodes)) [
      | inl g ↦ inr (suc (n - a), (λ e. omega arith), (let x = part_cases (suc (n - a)) in omega arith))
      | inr g ↦ inl ((n + 2) - length m.nodes, (λ e. omega arith), (let x = net_cases ((n + 2) - length m.nodes) in omega arith))
    ]
  ]

  front_length : length (take a c.nodes) ≡ a
  front_length = length_take a c.nodes (let ins = fit.inside in omega arith)

  middle_length : length (map (moved (renumber c a m)) (drop 1 m.nodes)) + 1 ≡ length m.nodes
  middle_length = let g = length-map (drop 1 m.nodes) (moved (renumber c a m)) in let d = length-drop 1 m.nodes in
      let some = fit.some in omega arith

  pub spliced_length : length (spliced c a m).nodes + 2 ≡ length c.nodes + length m.nodes
  unfolding spliced
  spliced_length = let f = front_length in let g = middle_length in let d = length-drop (suc a) c.nodes in
      let x = length-append (take a c.nodes) (map (moved (renumber c a m)) (drop 1 m.nodes) ++ drop (suc a) c.nodes) in
      let y = length-append (map (moved (renumber c a m)) (drop 1 m.nodes)) (drop (suc a) c.nodes) in
      let ins = fit.inside in omega arith

  net_before : (n : ℕ) → n < a → net_place c a m n ≡ n → slice_get (spliced c a m).nodes (net_place c a m n) ≡ slice_get c.nodes n
  unfolding spliced
  net_before n l e = rw e (get_before (take a c.nodes) (middle c a m ++ drop (suc a) c.nodes) n (let f = front_length in omega arith)
      ∙ get_take a c.nodes n l)

  net_after : (n : ℕ) → n ≢ a → a ≤ n → n < length c.nodes → net_place c a m n + 2 ≡ n + length m.nodes
      → slice_get (spliced c a m).nodes (net_place c a m n) ≡ slice_get c.nodes n
  unfolding spliced
  net_after n ne g l e =
      let f = front_length in let q = middle_length in let some = fit.some in
      get_after (take a c.nodes) (middle c a m ++ drop (suc a) c.nodes) (net_place c a m n) (net_place c a m n - a) (omega arith)
      ∙ get_after (middle c a m) (drop (suc a) c.nodes) (net_place c a m n - a) (n - suc a) (omega arith)
      ∙ get_drop (suc a) c.nodes (n - suc a) n (omega arith)

  pub net_node : (n : ℕ) → n ≢ a → slice_get (spliced c a m).nodes (net_place c a m n) ≡ slice_get c.nodes n
  net_node n ne = elim (net_cases n) [
    | inl (l, e) ↦ net_before n l e
    | inr (inl (g, l, e)) ↦ net_after n ne g l e
    | inr (inr (g, e)) ↦ slice_get_past (spliced c a m).nodes (net_place c a m n) (let s = spliced_length in omega arith) ∙ sym (slice_get_past c.nodes n g)
  ]

  part_inside : (n : ℕ) → ◌≢◌ {A = ℕ} n 0 → n < length m.nodes → part_place c a m n + 1 ≡ a + n
      → slice_get (spliced c a m).nodes (part_place c a m n) ≡ option_map (moved (renumber c a m)) (slice_get m.nodes n)
  unfolding spliced
  part_inside n h l e =
      let f = front_length in let q = middle_length in
      get_after (take a c.nodes) (middle c a m ++ drop (suc a) c.nodes) (part_place c a m n) (n - 1) (omega arith)
      ∙ get_before (middle c a m) (drop (suc a) c.nodes) (n - 1) (omega arith)
      ∙ slice_get-map (moved (renumber c a m)) (drop 1 m.nodes) (n - 1)
      ∙ ap (option_map (moved (renumber c a m))) (get_drop 1 m.nodes (n - 1) n (omega arith))

  pub part_node : (n : ℕ) → ◌≢◌ {A = ℕ} n 0
      → slice_get (spliced c a m).nodes (part_place c a m n) ≡ option_map (moved (renumber c a m)) (slice_get m.nodes n)
  part_node n h = elim (part_cases n) [
    | inl (l, e) ↦ part_inside n h l e
    | inr (g, e) ↦ slice_get_past (spliced c a m).nodes (part_place c a m n) (let s = spliced_length in let ins = fit.inside in omega arith)
        ∙ sym (ap (option_map (moved (renumber c a m))) (slice_get_past m.nodes n g))
  ]

  net_test : (n : ℕ) → n ≢ a → nat_eq (net_place c a m n) 0 ≡ nat_eq n 0
  net_test n ne = elim (cases_eq n 0) [
    | inl e ↦ eq-eqb (net_place c a m n) 0 (ap (net_place c a m) e ∙ net_zero) ∙ sym (eq-eqb n 0 e)
    | inr h ↦ ne_eqb (net_place c a m n) 0 (λ e. let x = net_cases n in let some = fit.some in let comp = fit.component in let ins = fit.inside in
        h (omega arith)) ∙ sym (ne_eqb n 0 h)
  ]

  part_test : (n : ℕ) → ◌≢◌ {A = ℕ} n 0 → nat_eq (part_place c a m n) 0 ≡ nat_eq n 0
  part_test n h = ne_eqb (part_place c a m n) 0 (part_above n h) ∙ sym (ne_eqb n 0 h)

  net_directions : (n : ℕ) → n ≢ a → directions (spliced c a m) (net_place c a m n) ≡ directions c n
  net_directions n ne = ap (directions_at (net_place c a m n)) (net_node n ne) ∙ directions_same (net_place c a m n) n (slice_get c.nodes n) (net_test n ne)

  part_directions : (n : ℕ) → ◌≢◌ {A = ℕ} n 0 → directions (spliced c a m) (part_place c a m n) ≡ directions m n
  part_directions n h = ap (directions_at (part_place c a m n)) (part_node n h)
      ∙ directions_moved (renumber c a m) (part_place c a m n) n (slice_get m.nodes n) (part_test n h)

  pub net_gives : (n p : ℕ) → n ≢ a → gives (spliced c a m) (net_place c a m n) p ≡ gives c n p
  net_gives n p ne = ap (λ ds. side_of true ds p) (net_directions n ne)

  pub net_takes : (n p : ℕ) → n ≢ a → takes (spliced c a m) (net_place c a m n) p ≡ takes c n p
  net_takes n p ne = ap (λ ds. side_of false ds p) (net_directions n ne)

  pub net_end : (n p : ℕ) → n ≢ a → end_at (spliced c a m) (net_place c a m n) p ≡ end_at c n p
  net_end n p ne = ap (λ o. end_of o p) (net_node n ne)

  pub part_gives : (n p : ℕ) → ◌≢◌ {A = ℕ} n 0 → gives (spliced c a m) (part_place c a m n) p ≡ gives m n p
  part_gives n p h = ap (λ ds. side_of true ds p) (part_directions n h)

  pub part_takes : (n p : ℕ) → ◌≢◌ {A = ℕ} n 0 → takes (spliced c a m) (part_place c a m n) p ≡ takes m n p
  part_takes n p h = ap (λ ds. side_of false ds p) (part_directions n h)

  pub part_end : (b : Bool) (n p : ℕ) → ◌≢◌ {A = ℕ} n 0 → side_of b (directions m n) p ≡ true
      → end_at (spliced c a m) (part_place c a m n) p ≡ renumber c a m (end_at m n p)
  part_end b n p h side =
      let (x, e, l) = port_within b m.nodes n p (slice_get m.nodes n) refl side in
      let fits = all_nodes (IsWired m.wires) m.nodes n x fit.fit_part e in
      let sized = fits.sized in
      ap (λ o. end_of o p) (part_node n h) ∙ ap (λ o. end_of (option_map (moved (renumber c a m)) o) p) e
      ∙ end_moved (renumber c a m) x.ends p (omega arith) ∙ ap (λ o. renumber c a m (end_of o p)) (sym e)

  pub net_may : (n : ℕ) → n ≢ a → (t : List ℕ) → may_of (slice_get (spliced c a m).nodes (net_place c a m n)) t ↔ may_of (slice_get c.nodes n) t
  net_may n ne t = subst (λ o. may_of o t ↔ may_of (slice_get c.nodes n) t) (sym (net_node n ne)) ((λ h. h), (λ h. h))

  pub part_may : (n : ℕ) → ◌≢◌ {A = ℕ} n 0 → (t : List ℕ)
      → may_of (slice_get (spliced c a m).nodes (part_place c a m n)) t ↔ may_of (slice_get m.nodes n) t
  part_may n h t = subst (λ o. may_of o t ↔ may_of (slice_get m.nodes n) t) (sym (part_node n h))
      (subst (λ X. X ↔ may_of (slice_get m.nodes n) t) (sym (may_moved (renumber c a m) (slice_get m.nodes n) t)) ((λ h. h), (λ h. h)))
