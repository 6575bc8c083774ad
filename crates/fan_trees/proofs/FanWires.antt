-- One layer by names: its wires, its nodes, and what each node may do next.
use Rattle.std.proofs.Common.{◌≡◌, ◌↔◌, ℕ, zero, suc, ◌+◌, ◌-◌, ◌<◌, Bool, List, [], ◌++◌, map, length, get_or, ◌⊎◌, inl, inr, refl, sym, ap, subst, ◌∙◌, arith, length-append}
use Rattle.std.proofs.lemmas.Bool.{cases_lt}
use Rattle.std.proofs.lemmas.List.{get_or_append_left, get_or-append_right}
use Rattle.std.proofs.lemmas.List.FromFn.{length-map-range_with_len, get_or-map-range_with_len}
use native.Mathlib.Decide.{ℕ_discrete}
use Rattle.cmd_tree.specs.Rounds.{tally, naught, Follows}
use Rattle.cmd_tree.proofs.RoundsRule.{follows_by}
use Rattle.basic_kinds.specs.Totals.{total}
use Rattle.basic_kinds.proofs.Totals.{total_same, total_split}
use Rattle.basic_kinds.specs.declared.kind.Kind.{Kind}
use Rattle.basic_kinds.specs.Kinds.{inputs_of, outputs_of, IsWide}
use Rattle.net_core.specs.declared.spec.NodeSpec.TheVariants.{Kind as Basic}
use Rattle.net_core.specs.Specs.{May}
use Rattle.net_laws.proofs.Webs.{Decides, test, test_decides}
use Rattle.net_laws.proofs.Among.{Among, Distinct}
use Rattle.net_laws.proofs.Rows.{row}
use Rattle.net_laws.proofs.KindRules.{KindOn, kind_spec}
use Rattle.fan_trees.proofs.FanRules.{Looks, FanOn}

-- the wire at the narrow port, those between the component of two and the halves, and those at the wide ports
pub data Wire : Type 0 where
  Root : Wire
  Mid : ℕ → Wire
  Leaf : ℕ → ℕ → Wire
  deriving Discrete as wire_discrete

abbrev pub same_wire : Wire → Wire → Bool
same_wire = test (wire_discrete ℕ_discrete)

pub wires_decide : Decides same_wire
wires_decide = test_decides (wire_discrete ℕ_discrete)

-- Node 0 is the environment, node 1 the component of two, node g + 2 that of half g. The end of a wire that is nearer to the
-- narrow port, and the other one.
abbrev pub above : Wire → ℕ
above Root = 0
above (Mid g) = 1
above (Leaf g i) = suc (suc g)

abbrev pub below : Wire → ℕ
below Root = 1
below (Mid g) = suc (suc g)
below (Leaf g i) = 0

pub two_ends : (w : Wire) → above w ≡ below w → ⊥
two_ends Root e = omega arith
two_ends (Mid g) e = omega arith
two_ends (Leaf g i) e = omega arith

-- the ports of a half
abbrev pub size : ℕ → ℕ → ℕ → ℕ
size h r zero = h
size h r (suc g) = r

abbrev pub There : ℕ → ℕ → Wire → Type 0
There h r Root = Unit {0}
There h r (Mid g) = g < 2
There h r (Leaf g i) = (g < 2) × (i < size h r g)

-- the wires at the wide ports in order
abbrev pub leaves : ℕ → ℕ → List Wire
leaves h r = row (Leaf 0) h ++ row (Leaf 1) r

abbrev pub leaf_at : ℕ → ℕ → ℕ → Wire
leaf_at h r p = get_or (leaves h r) p (Mid 2)

pub row_long : (v : ℕ → Wire) (n : ℕ) → length (row v n) ≡ n
row_long v n = length-map-range_with_len v 0 n

pub row_get : (v : ℕ → Wire) (n i : ℕ) → i < n → get_or (row v n) i (Mid 2) ≡ v i
row_get v n i low = get_or-map-range_with_len v 0 n i i (Mid 2) low (omega arith)

pub leaves_long : (h r : ℕ) → length (leaves h r) ≡ h + r
leaves_long h r = length-append (row (Leaf 0) h) (row (Leaf 1) r) ∙ omega (arith, row_long (Leaf 0) h, row_long (Leaf 1) r)

leaf_first : (h r i : ℕ) → i < h → leaf_at h r i ≡ Leaf 0 i
leaf_first h r i low = get_or_append_left (row (Leaf 0) h) (row (Leaf 1) r) (Mid 2) i (omega (arith, row_long (Leaf 0) h)) ∙ row_get (Leaf 0) h i low

leaf_second : (h r j : ℕ) → j < r → leaf_at h r (h + j) ≡ Leaf 1 j
leaf_second h r j low =
    let place : h + j - h ≡ j = omega arith in
    get_or-append_right (row (Leaf 0) h) (row (Leaf 1) r) h (h + j) (Mid 2) (row_long (Leaf 0) h) (omega arith)
    ∙ ap (λ q. get_or (row (Leaf 1) r) q (Mid 2)) place ∙ row_get (Leaf 1) r j low

-- the place of a wide port, and the wide port at a place
pub place_of : (h r g i : ℕ) → g < 2 → i < size h r g → (p : ℕ) × (p < h + r) × (leaf_at h r p ≡ Leaf g i)
place_of h r zero i a b = (i, omega arith, leaf_first h r i b)
place_of h r (suc zero) i a b = (h + i, omega arith, leaf_second h r i b)
place_of h r (suc (suc g)) i a b = absurd (omega arith)

pub leaf_of : (h r p : ℕ) → p < h + r → (g : ℕ) × (i : ℕ) × (g < 2) × (i < size h r g) × (leaf_at h r p ≡ Leaf g i)
leaf_of h r p low = elim (cases_lt p h) [
  | inl a ↦ (0, p, omega arith, a, leaf_first h r p a)
  | inr a ↦
      let e : p ≡ h + (p - h) = omega arith in
      let z : p - h < r = omega arith in
      (1, p - h, omega arith, z, ap (leaf_at h r) e ∙ leaf_second h r (p - h) z)
]

pub two_sum : (u : ℕ → ℕ) → total 2 u ≡ u 0 + u 1
unfolding total
two_sum u = omega arith

-- how often all wires at the wide ports have come
abbrev pub half_sum : ℕ → ℕ → (Wire → ℕ) → ℕ → ℕ
half_sum h r e g = total (size h r g) (λ i. e (Leaf g i))

pub leaf_total : (h r : ℕ) (e : Wire → ℕ) → total (h + r) (λ p. e (leaf_at h r p)) ≡ total 2 (half_sum h r e)
leaf_total h r e =
    total_split h r (λ p. e (leaf_at h r p))
    ∙ omega (
      arith,
      total_same h (λ p. e (leaf_at h r p)) (λ i. e (Leaf 0 i)) (λ i l. ap e (leaf_first h r i l)),
      total_same r (λ j. e (leaf_at h r (h + j))) (λ j. e (Leaf 1 j)) (λ j l. ap e (leaf_second h r j l)),
      two_sum (half_sum h r e),
    )

pub both : {A B D : Type 0} → A ↔ B → B ↔ D → A ↔ D
both p q = ((λ a. q.0 (p.0 a)), (λ d. p.1 (q.1 d)))

pub flip : {A B : Type 0} → A ↔ B → B ↔ A
flip p = (p.1, p.0)

-- ---- the rules of the nodes

module _ (Narrow : ℕ → ℕ → (ℕ → ℕ) → Type 0) (Wide : ℕ → ℕ → (ℕ → ℕ) → ℕ → Type 0) (h r : ℕ) where
  abbrev pub AtEnv : (Wire → ℕ) → Wire → Type 0
  AtEnv e Root = Narrow (h + r) (e Root) (λ p. e (leaf_at h r p))
  AtEnv e (Mid g) = ⊥
  AtEnv e (Leaf g i) = (g < 2) × (i < size h r g) × Wide (h + r) (e Root) (λ p. e (leaf_at h r p)) (e (Leaf g i))

  abbrev pub AtHub : (Wire → ℕ) → Wire → Type 0
  AtHub e Root = Narrow 2 (e Root) (λ g. e (Mid g))
  AtHub e (Mid g) = (g < 2) × Wide 2 (e Root) (λ k. e (Mid k)) (e (Mid g))
  AtHub e (Leaf g i) = ⊥

  abbrev pub AtHalf : ℕ → (Wire → ℕ) → Wire → Type 0
  AtHalf g e Root = ⊥
  AtHalf g e (Mid k) = (k ≡ g) × (k < 2) × Narrow (size h r k) (e (Mid k)) (λ i. e (Leaf k i))
  AtHalf g e (Leaf k i) = (k ≡ g) × (k < 2) × (i < size h r k) × Wide (size h r k) (e (Mid k)) (λ j. e (Leaf k j)) (e (Leaf k i))

  abbrev pub Rule : ℕ → (Wire → ℕ) → Wire → Type 0
  Rule zero e w = AtEnv e w
  Rule (suc zero) e w = AtHub e w
  Rule (suc (suc g)) e w = AtHalf g e w

  pub never : (n : ℕ) (e : Wire → ℕ) → Rule n e (Mid 2) → ⊥
  never zero e q = q
  never (suc zero) e q = let z = q.0 in omega arith
  never (suc (suc g)) e q = let z = q.1 in omega arith

  pub real_above : (w : Wire) (e : Wire → ℕ) → Rule (above w) e w → There h r w
  real_above Root e q = tt
  real_above (Mid g) e q = q.0
  real_above (Leaf g i) e q = (q.1, q.2)

  pub real_below : (w : Wire) (e : Wire → ℕ) → Rule (below w) e w → There h r w
  real_below Root e q = tt
  real_below (Mid g) e q = q.1
  real_below (Leaf g i) e q = (q.0, q.1)

  -- ---- the same by the lists of their wires

  pub env_on : (e : Wire → ℕ) (w : Wire) → AtEnv e w ↔ FanOn Narrow Wide (h + r) Root (leaves h r) (Mid 2) e w
  env_on e Root = ((λ k. inl (refl, k)), back)
    where
      back : FanOn Narrow Wide (h + r) Root (leaves h r) (Mid 2) e Root → AtEnv e Root
      back (inl (is, k)) = k
      back (inr (p, low, is, k)) = let (g, i, a, b, at) = leaf_of h r p low in let no_leaf : Root ≡ Leaf g i = is ∙ at in absurd (cc)
  env_on e (Mid g) = ((λ k. absurd k), back)
    where
      back : FanOn Narrow Wide (h + r) Root (leaves h r) (Mid 2) e (Mid g) → ⊥
      back (inl (is, k)) = cc
      back (inr (p, low, is, k)) = let (q, i, a, b, at) = leaf_of h r p low in let no_leaf : Mid g ≡ Leaf q i = is ∙ at in cc
  env_on e (Leaf g i) = (there, back)
    where
      there : AtEnv e (Leaf g i) → FanOn Narrow Wide (h + r) Root (leaves h r) (Mid 2) e (Leaf g i)
      there (a, b, k) = let (p, low, at) = place_of h r g i a b in inr (p, low, sym at, k)

      back : FanOn Narrow Wide (h + r) Root (leaves h r) (Mid 2) e (Leaf g i) → AtEnv e (Leaf g i)
      back (inl (is, k)) = absurd (cc)
      back (inr (p, low, is, k)) =
          let (q, j, a, b, at) = leaf_of h r p low in
          let same : Leaf q j ≡ Leaf g i = sym (is ∙ at) in
          let real : There h r (Leaf g i) = subst (There h r) same (a, b) in
          (real.0, real.1, k)

  -- where the wide ports are at a row of wires
  abbrev RowOn : ℕ → Wire → (ℕ → Wire) → (Wire → ℕ) → Wire → Type 0
  RowOn n x v e w = ((w ≡ x) × Narrow n (e x) (λ i. e (v i))) ⊎ ((i : ℕ) × (i < n) × (w ≡ v i) × Wide n (e x) (λ j. e (v j)) (e w))

  hub_row : (e : Wire → ℕ) (w : Wire) → AtHub e w ↔ RowOn 2 Root Mid e w
  hub_row e Root = ((λ k. inl (refl, k)), back)
    where
      back : RowOn 2 Root Mid e Root → AtHub e Root
      back (inl (is, k)) = k
      back (inr (i, low, is, k)) = absurd (cc)
  hub_row e (Mid g) = ((λ k. inr (g, k.0, refl, k.1)), back)
    where
      back : RowOn 2 Root Mid e (Mid g) → AtHub e (Mid g)
      back (inl (is, k)) = absurd (cc)
      back (inr (i, low, is, k)) = let same : g ≡ i = cc in (omega arith, k)
  hub_row e (Leaf g i) = ((λ k. absurd k), back)
    where
      back : RowOn 2 Root Mid e (Leaf g i) → ⊥
      back (inl (is, k)) = cc
      back (inr (j, low, is, k)) = cc

  half_row : (g : ℕ) → g < 2 → (e : Wire → ℕ) (w : Wire) → AtHalf g e w ↔ RowOn (size h r g) (Mid g) (Leaf g) e w
  half_row g near e Root = ((λ k. absurd k), back)
    where
      back : RowOn (size h r g) (Mid g) (Leaf g) e Root → ⊥
      back (inl (is, k)) = cc
      back (inr (i, low, is, k)) = cc
  half_row g near e (Mid q) = (there, back)
    where
      there : AtHalf g e (Mid q) → RowOn (size h r g) (Mid g) (Leaf g) e (Mid q)
      there (same, low, k) = inl (ap Mid same, subst (λ z. Narrow (size h r z) (e (Mid z)) (λ i. e (Leaf z i))) same k)

      back : RowOn (size h r g) (Mid g) (Leaf g) e (Mid q) → AtHalf g e (Mid q)
      back (inl (is, k)) =
          let same : q ≡ g = cc in
          (same, omega arith, subst (λ z. Narrow (size h r z) (e (Mid z)) (λ i. e (Leaf z i))) (sym same) k)
      back (inr (i, low, is, k)) = absurd (cc)
  half_row g near e (Leaf q i) = (there, back)
    where
      there : AtHalf g e (Leaf q i) → RowOn (size h r g) (Mid g) (Leaf g) e (Leaf q i)
      there (same, low, inside, k) = inr (
        i,
        subst (λ z. i < size h r z) same inside,
        ap (λ z. Leaf z i) same,
        subst (λ z. Wide (size h r z) (e (Mid z)) (λ j. e (Leaf z j)) (e (Leaf q i))) same k,
      )

      back : RowOn (size h r g) (Mid g) (Leaf g) e (Leaf q i) → AtHalf g e (Leaf q i)
      back (inl (is, k)) = absurd (cc)
      back (inr (j, low, is, k)) =
          let same : q ≡ g = cc in
          let also : i ≡ j = cc in (
            same,
            omega arith,
            subst (λ z. i < size h r z) (sym same) (subst (λ z. z < size h r g) (sym also) low),
            subst (λ z. Wide (size h r z) (e (Mid z)) (λ j. e (Leaf z j)) (e (Leaf q i))) (sym same) k,
          )

  module _ (looks : Looks Narrow Wide) where
    row_on : (n : ℕ) (x : Wire) (v : ℕ → Wire) (e : Wire → ℕ) (w : Wire) → RowOn n x v e w ↔ FanOn Narrow Wide n x (row v n) (Mid 2) e w
    row_on n x v e w = (there, back)
      where
        there : RowOn n x v e w → FanOn Narrow Wide n x (row v n) (Mid 2) e w
        there (inl (is, k)) =
            inl (is, looks.narrow n (e x) (e x) (λ i. e (v i)) (λ i. e (get_or (row v n) i (Mid 2))) refl (λ i l. ap e (sym (row_get v n i l))) k)
        there (inr (i, low, is, k)) = inr (
          i,
          low,
          is ∙ sym (row_get v n i low),
          looks.wide n (e x) (e x) (λ i. e (v i)) (λ i. e (get_or (row v n) i (Mid 2))) (e w) (e w) refl (λ i l. ap e (sym (row_get v n i l))) refl k,
        )

        back : FanOn Narrow Wide n x (row v n) (Mid 2) e w → RowOn n x v e w
        back (inl (is, k)) =
            inl (is, looks.narrow n (e x) (e x) (λ i. e (get_or (row v n) i (Mid 2))) (λ i. e (v i)) refl (λ i l. ap e (row_get v n i l)) k)
        back (inr (i, low, is, k)) = inr (
          i,
          low,
          is ∙ row_get v n i low,
          looks.wide n (e x) (e x) (λ i. e (get_or (row v n) i (Mid 2))) (λ i. e (v i)) (e w) (e w) refl (λ i l. ap e (row_get v n i l)) refl k,
        )

    pub hub_on : (e : Wire → ℕ) (w : Wire) → AtHub e w ↔ FanOn Narrow Wide 2 Root (row Mid 2) (Mid 2) e w
    hub_on e w = both (hub_row e w) (row_on 2 Root Mid e w)

    pub half_on : (g : ℕ) → g < 2 → (e : Wire → ℕ) (w : Wire) → AtHalf g e w ↔ FanOn Narrow Wide (size h r g) (Mid g) (row (Leaf g) (size h r g)) (Mid 2) e w
    half_on g near e w = both (half_row g near e w) (row_on (size h r g) (Mid g) (Leaf g) e w)

-- the traces of a node of a kind, where its rule is that of its wires
pub may_by : (k : Kind) (ws : List Wire) → Distinct ws → (Among (Mid 2) ws → ⊥) → IsWide k → length ws ≡ inputs_of k + outputs_of k
    → (R : (Wire → ℕ) → Wire → Type 0) → ((e : Wire → ℕ) (w : Wire) → R e w ↔ KindOn k ws (Mid 2) e w) → (t : List ℕ)
    → May (Basic k) t ↔ Follows (λ v w. R (tally same_wire naught v) w) [] (map (λ p. get_or ws p (Mid 2)) t)
may_by k ws distinct away wide long R on t =
    let s = kind_spec same_wire wires_decide ws distinct (Mid 2) away k wide long t in (
      λ a. follows_by (λ v w. KindOn k ws (Mid 2) (tally same_wire naught v) w) (λ v w. R (tally same_wire naught v) w)
          (λ v w q. (on (tally same_wire naught v) w).1 q) [] (map (λ p. get_or ws p (Mid 2)) t) (s.0 a),
      λ a. s.1 (follows_by (λ v w. R (tally same_wire naught v) w) (λ v w. KindOn k ws (Mid 2) (tally same_wire naught v) w)
          (λ v w q. (on (tally same_wire naught v) w).0 q) [] (map (λ p. get_or ws p (Mid 2)) t) a),
    )
