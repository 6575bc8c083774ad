-- The numbers of events: where each sort stands among all that a network could ever have, and how many there are.
use Rattle.std.proofs.Common.{◌≡◌, ◌⊎◌, inl, inr, ℕ, zero, suc, ◌+◌, ◌-◌, ◌*◌, ◌<◌, ◌≤◌, Bool, true, false, not, if◌then◌else◌, List, [], ◌∷◌, ◌++◌, length, map, drop, get_or, replicate, Some, refl, sym, ap, ◌∙◌, subst, arith}
use Rattle.std.specs.Prelude.{slice_get, filter}
use Rattle.std.specs.List.{range_with_len, AllByRecursion}
use Rattle.std.proofs.Math.Nat.{mul-one, mul-zero, zero-mul}
use Rattle.std.proofs.lemmas.List.{length-append, length-map}
use Rattle.std.proofs.lemmas.List.FromFn.{length-map-range_with_len}
use Rattle.basic_kinds.specs.Kinds.{inputs_of, outputs_of}
use Rattle.net_core.specs.declared.spec.NodeSpec.{NodeSpec}
use Rattle.net_core.specs.declared.spec.NodeSpec.TheVariants.{Kind, Cmd}
use Rattle.net_core.specs.Specs.{sides, outs_of}
use Rattle.net_core.specs.Wiring.{Node, Circuit, IsWired, IsNetwork, picked, side, flows, wiring, driven}
use Rattle.net_core.specs.Networks.{directions, directions_at, gives}
use Rattle.net_core.proofs.Ends.{own_directions}
use Rattle.replay.specs.declared.event.Event.{Event}
use Rattle.replay.specs.declared.event.Event.TheVariants.{Give, Pass, Fire, Unknown}
use Rattle.net_drive.specs.Bits.{one_if, trues}
use Rattle.net_drive.specs.Drawn.{give_of, gives_of, passes_of, outputs_in, fires_from, possible, widest_from, widest}
use Rattle.net_drive.specs.Mirror.Plans.{starts_from}

-- ---- places in lists

-- an item of two lists stands in the first, or in the second
pub in_either : (xs ys : List Event) (i : ℕ) (e : Event) → slice_get (xs ++ ys) i ≡ Some e
    → ((i < length xs) × (slice_get xs i ≡ Some e)) ⊎ ((j : ℕ) × (i ≡ length xs + j) × (slice_get ys j ≡ Some e))
in_either [] ys i e h = inr (i, omega arith, h)
in_either (x ∷ xs) ys zero e h = inl (omega arith, h)
in_either (x ∷ xs) ys (suc i) e h = elim (in_either xs ys i e h) [
  | inl (l, f) ↦ inl (omega (arith, l), f)
  | inr (j, is, f) ↦ inr (j, omega (arith, is), f)
]

in_range : (f : ℕ → Event) (a n i : ℕ) (e : Event) → slice_get (map f (range_with_len a n)) i ≡ Some e → (i < n) × (e ≡ f (a + i))
in_range f a zero i e h = absurd (cc)
in_range f a (suc n) zero e h = let is : f a ≡ e = cc in (omega arith, sym is ∙ ap f (let z : a ≡ a + 0 = omega arith in z))
in_range f a (suc n) (suc i) e h =
    let r = in_range f (a + 1) n i e h in (omega (arith, r.0), r.1 ∙ ap f (let z : a + 1 + i ≡ a + suc i = omega arith in z))

in_gives : (xs : List ℕ) (i : ℕ) (e : Event) → slice_get (map give_of xs) i ≡ Some e → (b : ℕ) × (e ≡ give_of b)
in_gives [] i e h = absurd (cc)
in_gives (x ∷ xs) zero e h = let is : give_of x ≡ e = cc in (x, sym is)
in_gives (x ∷ xs) (suc i) e h = in_gives xs i e h

-- ---- the fires of a component

starts_head : (k : ℕ) (xs : List Node) → get_or (starts_from k xs) 0 0 ≡ k
starts_head k [] = refl
starts_head k (x ∷ xs) = refl

record IsFire (base n : ℕ) (xs : List Node) (i : ℕ) (e : Event) : Type 0 where
  number : ℕ
  output : ℕ
  is : e ≡ Fire (n + number) output
  from : get_or (starts_from base xs) number 0 ≤ base + i
  to : base + i < get_or (starts_from base xs) (suc number) 0

in_fires : (base n : ℕ) (xs : List Node) (i : ℕ) (e : Event) → slice_get (fires_from n xs) i ≡ Some e → IsFire base n xs i e
in_fires base n [] i e h = absurd (cc)
in_fires base n (x ∷ xs) i e h = elim (in_either (map (Fire n) (range_with_len 1 (outputs_in x.spec))) (fires_from (suc n) xs) i e h) [
  | inl (l, f) ↦
      let r = in_range (Fire n) 1 (outputs_in x.spec) i e f in
      let head = starts_head (base + outputs_in x.spec) xs in record {
        number = 0;
        output = 1 + i;
        is = r.1 ∙ ap (λ m. Fire m (1 + i)) (let z : n ≡ n + 0 = omega arith in z);
        from = omega arith;
        to = omega (arith, r.0, head);
      }
  | inr (j, is, f) ↦
      let many = length-map-range_with_len (Fire n) 1 (outputs_in x.spec) in
      let r = in_fires (base + outputs_in x.spec) (suc n) xs j e f in record {
        number = suc r.number;
        output = r.output;
        is = r.is ∙ ap (λ m. Fire m r.output) (let z : suc n + r.number ≡ n + suc r.number = omega arith in z);
        from = omega (arith, r.from, is, many);
        to = omega (arith, r.to, is, many);
      }
]

module _ (c : Circuit) where
  pub many_passes : length (passes_of c) ≡ c.wires
  many_passes = length-map-range_with_len Pass 0 c.wires

  -- where an event stands
  abbrev pub Stands : ℕ → Event → Type 0
  Stands i (Give a) = i < length (gives_of c)
  Stands i (Pass w) = i ≡ length (gives_of c) + w
  Stands i (Fire n k) = (0 < n) × (get_or (starts_from (length (gives_of c) + c.wires) (drop 1 c.nodes)) (n - 1) 0 ≤ i)
      × (i < get_or (starts_from (length (gives_of c) + c.wires) (drop 1 c.nodes)) n 0)
  Stands i Unknown = ⊥

  pub stands : (i : ℕ) (e : Event) → slice_get (possible c) i ≡ Some e → Stands i e
  stands i e h = elim (in_either (gives_of c) (passes_of c ++ fires_from 1 (drop 1 c.nodes)) i e h) [
    | inl (l, f) ↦
        let r = in_gives (filter (gives c 0) (range_with_len 0 (length (directions c 0)))) i e f in
        subst (Stands i) (sym r.1) l
    | inr (j, is, f) ↦ elim (in_either (passes_of c) (fires_from 1 (drop 1 c.nodes)) j e f) [
      | inl (l, g) ↦
          let r = in_range Pass 0 c.wires j e g in
          let place : i ≡ length (gives_of c) + (0 + j) = omega (arith, is) in
          subst (Stands i) (sym r.1) place
      | inr (m, at, g) ↦
          let base = length (gives_of c) + c.wires in
          let r = in_fires base 1 (drop 1 c.nodes) m e g in
          let same : i ≡ base + m = omega (arith, is, at, many_passes) in
          let starts = starts_from base (drop 1 c.nodes) in
          let low : get_or starts (1 + r.number - 1) 0 ≤ i = subst (λ n. get_or starts n 0 ≤ i) (let z : r.number ≡ 1 + r.number - 1 = omega arith in z) (omega (arith, r.from, same)) in
          let high : i < get_or starts (1 + r.number) 0 = subst (λ n. i < get_or starts n 0) (let z : suc r.number ≡ 1 + r.number = omega arith in z) (omega (arith, r.to, same)) in
          subst (Stands i) (sym r.is) (omega arith, low, high)
    ]
  ]

-- ---- how many

trues_rest : (n : ℕ) (b : Bool) → trues (replicate n b) ≡ n * one_if b
trues_rest zero b = sym (zero-mul (one_if b))
trues_rest (suc n) true = let r = trues_rest n true in let m = mul-one n in let o = mul-one (suc n) in omega (arith, r, m, o)
trues_rest (suc n) false = let r = trues_rest n false in let m = mul-zero n in let o = mul-zero (suc n) in omega (arith, r, m, o)

trues_append : (xs ys : List Bool) → trues (xs ++ ys) ≡ trues xs + trues ys
trues_append [] ys = omega arith
trues_append (x ∷ xs) ys = let r = trues_append xs ys in omega (arith, r)

trues_sides : (n m : ℕ) → trues (sides n m) ≡ m
trues_sides n m = let a = trues_append (replicate n false) (replicate m true) in let f = trues_rest n false in let t = trues_rest m true in
    let z = mul-zero n in let o = mul-one m in omega (arith, a, f, t, z, o)

outputs_low : (x : NodeSpec) → outputs_in x ≤ trues (outs_of x)
outputs_low (Kind kind) = let e = trues_sides (inputs_of kind) (outputs_of kind) in omega (arith, e)
outputs_low (Cmd command) = omega arith

filtered : (f : ℕ → Bool) (a : ℕ) (ds : List Bool) → ((i : ℕ) → i < length ds → f (a + i) ≡ get_or ds i false)
    → length (filter f (range_with_len a (length ds))) ≡ trues ds
filtered f a [] h = refl
filtered f a (d ∷ ds) h = by (f a) d refl (ap f (let z : a ≡ a + 0 = omega arith in z) ∙ h 0 (omega arith)) (filtered f (a + 1) ds
    (λ i l. ap f (let z : a + 1 + i ≡ a + suc i = omega arith in z) ∙ h (suc i) (omega (arith, l))))
  where
    by : (x y : Bool) → f a ≡ x → f a ≡ y → length (filter f (range_with_len (a + 1) (length ds))) ≡ trues ds
        → length (if x then a ∷ filter f (range_with_len (a + 1) (length ds)) else filter f (range_with_len (a + 1) (length ds))) ≡ one_if y + trues ds
    by true true e g r = omega (arith, r)
    by true false e g r = absurd (cc)
    by false true e g r = absurd (cc)
    by false false e g r = omega (arith, r)

pub many_gives : (c : Circuit) → length (gives_of c) ≡ trues (directions c 0)
many_gives c = length-map (filter (gives c 0) (range_with_len 0 (length (directions c 0)))) give_of
    ∙ filtered (gives c 0) 0 (directions c 0) (λ i l. ap (λ m. get_or (directions c 0) m false) (let z : 0 + i ≡ i = omega arith in z))

-- ---- no more than the widest

gives_low : (c : Circuit) → trues (directions c 0) ≤ widest c
gives_low c = by c.nodes
  where
    by : (xs : List Node) → trues (directions_at 0 (slice_get xs 0)) ≤ widest_from 0 xs
    by [] = omega arith
    by (x ∷ xs) = omega arith

pub gives_widest : (c : Circuit) → length (gives_of c) ≤ widest c
gives_widest c = omega (arith, many_gives c, gives_low c)

-- the fires of a component end no further behind their start
within : (W base n : ℕ) (xs : List Node) (d : ℕ) → 0 < n → widest_from n xs ≤ W
    → get_or (starts_from base xs) (suc d) 0 ≤ get_or (starts_from base xs) d 0 + W
within W base n [] zero p h = omega arith
within W base n [] (suc d) p h = omega arith
within W base n (x ∷ xs) zero p h =
    let head = starts_head (base + outputs_in x.spec) xs in
    let own = ap trues (own_directions n (Some x) (λ z. let q : n ≡ 0 = z in absurd (omega (arith, q, p)))) in
    omega (arith, head, own, outputs_low x.spec, h)
within W base n (x ∷ xs) (suc d) p h = within W (base + outputs_in x.spec) (suc n) xs d (omega arith) (omega (arith, h))

pub fires_widest : (c : Circuit) (base d : ℕ)
    → get_or (starts_from base (drop 1 c.nodes)) (suc d) 0 ≤ get_or (starts_from base (drop 1 c.nodes)) d 0 + widest c
fires_widest c base d = by c.nodes
  where
    by : (xs : List Node) → get_or (starts_from base (drop 1 xs)) (suc d) 0 ≤ get_or (starts_from base (drop 1 xs)) d 0 + widest_from 0 xs
    by [] = within 0 base 1 [] d (omega arith) (omega arith)
    by (x ∷ xs) = within (widest_from 0 (x ∷ xs)) base 1 xs d (omega arith) (omega arith)

-- ---- as many in all as twice the wires, at most

picked_true : (ds : List Bool) (ws : List ℕ) → length ws ≡ length ds → length (picked true ds ws) ≡ trues ds
unfolding picked
picked_true [] ws h = refl
picked_true (d ∷ ds) [] h = absurd (omega (arith, h))
picked_true (true ∷ ds) (w ∷ ws) h = let r = picked_true ds ws (omega (arith, h)) in omega (arith, r)
picked_true (false ∷ ds) (w ∷ ws) h = let r = picked_true ds ws (omega (arith, h)) in omega (arith, r)

picked_false : (ds : List Bool) (ws : List ℕ) → length ws ≡ length ds → length (picked false ds ws) ≡ trues (map not ds)
unfolding picked
picked_false [] ws h = refl
picked_false (d ∷ ds) [] h = absurd (omega (arith, h))
picked_false (true ∷ ds) (w ∷ ws) h = let r = picked_false ds ws (omega (arith, h)) in omega (arith, r)
picked_false (false ∷ ds) (w ∷ ws) h = let r = picked_false ds ws (omega (arith, h)) in omega (arith, r)

many_fires : (wires n : ℕ) (xs : List Node) → AllByRecursion (IsWired wires) xs → length (fires_from n xs) ≤ length (flows true xs)
unfolding flows
many_fires wires n [] h = omega arith
many_fires wires n (x ∷ xs) h =
    let a = length-append (map (Fire n) (range_with_len 1 (outputs_in x.spec))) (fires_from (suc n) xs) in
    let m = length-map-range_with_len (Fire n) 1 (outputs_in x.spec) in
    let b = length-append (side true x) (flows true xs) in
    let own : length (side true x) ≡ trues (outs_of x.spec) = picked_true (outs_of x.spec) x.ends h.0.sized in
    omega (arith, a, m, b, own, outputs_low x.spec, many_fires wires (suc n) xs h.1)

outputs_many : (c : Circuit) → AllByRecursion (IsWired c.wires) c.nodes
    → length (gives_of c) + length (fires_from 1 (drop 1 c.nodes)) ≤ length (driven c)
unfolding wiring
outputs_many c h = let g = many_gives c in omega (arith, g, by c.nodes h)
  where
    by : (xs : List Node) → AllByRecursion (IsWired c.wires) xs
        → trues (directions_at 0 (slice_get xs 0)) + length (fires_from 1 (drop 1 xs)) ≤ length (wiring true xs)
    by [] h = omega arith
    by (x ∷ xs) h =
        let a = length-append (side false x) (flows true xs) in
        let own : length (side false x) ≡ trues (map not (outs_of x.spec)) = picked_false (outs_of x.spec) x.ends h.0.sized in
        omega (arith, a, own, many_fires c.wires 1 xs h.1)

pub many_possible : (c : Circuit) → IsNetwork c → length (driven c) ≡ c.wires → length (possible c) ≤ 2 * c.wires
many_possible c network all =
    let a = length-append (gives_of c) (passes_of c ++ fires_from 1 (drop 1 c.nodes)) in
    let b = length-append (passes_of c) (fires_from 1 (drop 1 c.nodes)) in
    let p = many_passes c in
    omega (arith, a, b, p, all, outputs_many c network.wired)
