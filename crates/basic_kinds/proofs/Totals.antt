-- Sums of k numbers, for arguments of the form 'at most one of these is ahead'.
use Rattle.std.proofs.Common.{◌≡◌, ℕ, zero, suc, ◌+◌, ◌<◌, ◌≤◌, ◌⊎◌, inl, inr, refl, sym, ap, ◌∙◌, arith}
use Rattle.std.proofs.lemmas.Bool.{cases_lt}
use Rattle.basic_kinds.specs.Totals.{total}

pub total_same : (k : ℕ) (u v : ℕ → ℕ) → ((i : ℕ) → i < k → u i ≡ v i) → total k u ≡ total k v
unfolding total
total_same zero u v h = refl
total_same (suc k) u v h = omega (arith, h k (omega arith), total_same k u v (λ i x. h i (omega arith)))

pub total_le : (k : ℕ) (u v : ℕ → ℕ) → ((i : ℕ) → i < k → u i ≤ v i) → total k u ≤ total k v
unfolding total
total_le zero u v h = omega arith
total_le (suc k) u v h = omega (arith, h k (omega arith), total_le k u v (λ i x. h i (omega arith)))

-- a sum of nothing but zeros
pub total_none : (k : ℕ) (u : ℕ → ℕ) → ((i : ℕ) → i < k → u i ≡ 0) → total k u ≡ 0
unfolding total
total_none zero u h = refl
total_none (suc k) u h = omega (arith, h k (omega arith), total_none k u (λ i x. h i (omega arith)))

-- a part is at most the sum
pub total_part : (k : ℕ) (u : ℕ → ℕ) (i : ℕ) → i < k → u i ≤ total k u
unfolding total
total_part zero u i x = absurd (omega arith)
total_part (suc k) u i x = elim (cases_lt i k) [
  | inl y ↦ omega (arith, total_part k u i y)
  | inr y ↦ let e : i ≡ k = omega arith in omega (arith, ap u e)
]

-- the sum of which one part alone is not zero
pub total_at : (k : ℕ) (u : ℕ → ℕ) (i : ℕ) → i < k → ((j : ℕ) → j < k → (j ≡ i → ⊥) → u j ≡ 0) → total k u
    ≡ u i
unfolding total
total_at zero u i x h = absurd (omega arith)
total_at (suc k) u i x h = elim (cases_lt i k) [
  | inl y ↦ omega (arith, h k (omega arith) (λ e. omega arith), total_at k u i y (λ j z. h j (omega arith)))
  | inr y ↦ let e : i ≡ k = omega arith in
      omega (arith, ap u e, total_none k u (λ j z. h j (omega arith) (λ c. omega arith)))
]

-- one part is one more
pub total_one : (k : ℕ) (u v : ℕ → ℕ) (i : ℕ) → i < k → v i ≡ suc (u i)
    → ((j : ℕ) → j < k → (j ≡ i → ⊥) → v j ≡ u j) → total k v ≡ suc (total k u)
unfolding total
total_one zero u v i x e h = absurd (omega arith)
total_one (suc k) u v i x e h = elim (cases_lt i k) [
  | inl y ↦ omega (
    arith,
    h k (omega arith) (λ c. omega arith),
    total_one k u v i y e (λ j z. h j (omega arith)),
  )
  | inr y ↦ let c : i ≡ k = omega arith in
      omega (arith, e, ap u c, ap v c, total_same k v u (λ j z. h j (omega arith) (λ d. omega arith)))
]

-- the gap at one part is at most the gap of the sums
pub total_gap : (k : ℕ) (u v : ℕ → ℕ) → ((i : ℕ) → i < k → u i ≤ v i) → (i : ℕ) → i < k
    → total k u + v i ≤ total k v + u i
unfolding total
total_gap zero u v h i x = absurd (omega arith)
total_gap (suc k) u v h i x = elim (cases_lt i k) [
  | inl y ↦ omega (arith, h k (omega arith), total_gap k u v (λ j z. h j (omega arith)) i y)
  | inr y ↦ let e : i ≡ k = omega arith in
      omega (arith, ap u e, ap v e, total_le k u v (λ j z. h j (omega arith)))
]

-- the gaps at two parts together are at most the gap of the sums
pub total_gap2 : (k : ℕ) (u v : ℕ → ℕ) → ((i : ℕ) → i < k → u i ≤ v i) → (i j : ℕ) → i < k → j < k
    → (i ≡ j → ⊥) → total k u + (v i + v j) ≤ total k v + (u i + u j)
unfolding total
total_gap2 zero u v h i j x y n = absurd (omega arith)
total_gap2 (suc k) u v h i j x y n =
    let low : (a : ℕ) → a < k → u a ≤ v a = λ a z. h a (omega arith) in
    elim (cases_lt i k) [
      | inl a ↦ elim (cases_lt j k) [
        | inl b ↦ omega (arith, h k (omega arith), total_gap2 k u v low i j a b n)
        | inr b ↦ let e : j ≡ k = omega arith in omega (arith, ap u e, ap v e, total_gap k u v low i a)
      ]
      | inr a ↦ elim (cases_lt j k) [
        | inl b ↦ let e : i ≡ k = omega arith in omega (arith, ap u e, ap v e, total_gap k u v low j b)
        | inr b ↦ absurd (n (omega arith))
      ]
    ]

module _ (k : ℕ) (u v : ℕ → ℕ) (h : (i : ℕ) → i < k → u i ≤ v i) where
  -- where the sums differ by at most one, so does each part
  pub one_ahead : total k v ≤ suc (total k u) → (i : ℕ) → i < k → v i ≤ suc (u i)
  one_ahead e i x = omega (arith, e, total_gap k u v h i x)

  -- and if one part is ahead, the others are not
  pub only_one : total k v ≤ suc (total k u) → (i : ℕ) → i < k → u i < v i → (j : ℕ) → j < k → (j ≡ i → ⊥)
      → v j ≡ u j
  only_one e i x a j y n = omega (arith, e, a, h j y, total_gap2 k u v h i j x y (λ c. n (sym c)))

  pub all_same : total k v ≤ total k u → (i : ℕ) → i < k → v i ≡ u i
  all_same e i x = omega (arith, e, h i x, total_gap k u v h i x)

-- where the sum is more, some part is
pub total_some : (k : ℕ) (u v : ℕ → ℕ) → total k u < total k v → (i : ℕ) × (i < k) × (u i < v i)
unfolding total
total_some zero u v h = absurd (omega arith)
total_some (suc k) u v h = at (cases_lt (u k) (v k)) (total_some k u v)
  where
    at : (u k < v k) ⊎ (v k ≤ u k) → (total k u < total k v → (i : ℕ) × (i < k) × (u i < v i)) → (i : ℕ)
        × (i < suc k) × (u i < v i)
    at (inl x) f = (k, omega arith, x)
    at (inr x) f = let r : (i : ℕ) × (i < k) × (u i < v i) = f (omega arith) in (r.0, omega (arith, r.1), r.2)

pub total_add : (k : ℕ) (u v : ℕ → ℕ) → total k (λ i. u i + v i) ≡ total k u + total k v
unfolding total
total_add zero u v = refl
total_add (suc k) u v = omega (arith, total_add k u v)

pub total_split : (k l : ℕ) (u : ℕ → ℕ) → total (k + l) u ≡ total k u + total l (λ j. u (k + j))
unfolding total
total_split k zero u = let e : k + 0 ≡ k = omega arith in omega (arith, ap (λ z. total z u) e)
total_split k (suc l) u = let e : k + suc l ≡ suc (k + l) = omega arith in
    let a : total (k + suc l) u ≡ total (k + l) u + u (k + l) = ap (λ z. total z u) e in
    omega (arith, a, total_split k l u)

-- rows first or columns first
pub total_swap : (k l : ℕ) (u : ℕ → ℕ → ℕ) → total k (λ i. total l (u i))
    ≡ total l (λ j. total k (λ i. u i j))
unfolding total
total_swap zero l u = sym (total_none l (λ j. 0) (λ j x. refl))
total_swap (suc k) l u = ap (λ z. z + total l (u k)) (total_swap k l u)
    ∙ sym (total_add l (λ j. total k (λ i. u i j)) (u k))
