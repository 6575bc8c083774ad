-- A list of different numbers below k has at most k.
use Rattle.std.proofs.Common.{◌≡◌, inl, inr, ℕ, zero, suc, ◌+◌, ◌<◌, ◌≤◌, List, [], ◌∷◌, length, refl, subst, arith}
use Rattle.std.proofs.lemmas.Bool.{cases_lt, cases_eq}
use Rattle.basic_kinds.specs.Totals.{total}
use Rattle.place_graph.specs.Tale.{one_if, times}
use Rattle.place_graph.proofs.Sums.{one_same, one_other, in_from_times}
use Rattle.net_laws.proofs.Among.{Among, Distinct}
use Rattle.plain_split.proofs.OneWaitDrawn.{in_among}

pub total_zero : (k : ℕ) → total k (λ a. 0) ≡ 0
unfolding total
total_zero zero = refl
total_zero (suc k) = omega (arith, total_zero k)

pub total_plus : (k : ℕ) (u v : ℕ → ℕ) → total k (λ a. u a + v a) ≡ total k u + total k v
unfolding total
total_plus zero u v = refl
total_plus (suc k) u v = omega (arith, total_plus k u v)

total_past : (k x : ℕ) → k ≤ x → total k (λ a. one_if a x) ≡ 0
unfolding total
total_past zero x h = refl
total_past (suc k) x h = omega (arith, total_past k x (omega arith), one_other k x (λ e. omega arith))

pub total_single : (k x : ℕ) → x < k → total k (λ a. one_if a x) ≡ 1
unfolding total
total_single zero x h = absurd (omega arith)
total_single (suc k) x h = elim (cases_eq k x) [
  | inl e ↦ omega (arith, one_same k x e, total_past k x (omega arith))
  | inr e ↦ omega (arith, one_other k x e, total_single k x (omega arith))
]

pub total_low : (k : ℕ) (u : ℕ → ℕ) → ((a : ℕ) → u a ≤ 1) → total k u ≤ k
unfolding total
total_low zero u h = omega arith
total_low (suc k) u h = omega (arith, total_low k u h, h k)

long_times : (k : ℕ) (xs : List ℕ) → ((a : ℕ) → Among a xs → a < k) → total k (λ a. times a xs) ≡ length xs
long_times k [] h = total_zero k
long_times k (x ∷ xs) h = omega (arith, total_plus k (λ a. one_if a x) (λ a. times a xs), total_single k x (h x (inl refl)), long_times k xs (λ a i. h a (inr i)))

pub few_long : (k : ℕ) (xs : List ℕ) → ((a : ℕ) → Among a xs → a < k) → ((a : ℕ) → times a xs ≤ 1) → length xs ≤ k
few_long k xs h few = omega (arith, long_times k xs h, total_low k (λ a. times a xs) few)

pub once_times : (xs : List ℕ) → Distinct xs → (a : ℕ) → times a xs ≤ 1
once_times [] d a = omega arith
once_times (x ∷ xs) d a = elim (cases_eq a x) [
  | inl e ↦ elim (cases_lt 0 (times a xs)) [
    | inl some ↦ absurd (d.0 (subst (λ y. Among y xs) e (in_among a xs (in_from_times a xs some))))
    | inr none ↦ omega (arith, one_same a x e)
  ]
  | inr e ↦ omega (arith, one_other a x e, once_times xs d.1 a)
]

pub total_single_low : (k x : ℕ) → total k (λ a. one_if a x) ≤ 1
total_single_low k x = elim (cases_lt x k) [ inl low ↦ omega (arith, total_single k x low) | inr past ↦ omega (arith, total_past k x past) ]
