-- How many numbers before one pass a test.
use Rattle.std.proofs.Common.{refl, ◌≡◌, ◌⊎◌, inl, inr, ℕ, zero, suc, ◌+◌, ◌-◌, ◌<◌, ◌≤◌, Bool, true, false, sym, subst, arith, if◌then◌else◌}
use Rattle.std.proofs.lemmas.Bool.{cases_Bool, cases_eq, cases_order}
use Rattle.substitute.specs.Splice.{rank}

pub rank_next : (f : ℕ → Bool) (n : ℕ) → f n ≡ true → rank f (suc n) ≡ suc (rank f n)
unfolding rank
rank_next f n e = rw e refl

rank_grows : (f : ℕ → Bool) (n : ℕ) → rank f n ≤ rank f (suc n)
unfolding rank
rank_grows f n = go (f n)
  where
    go : (b : Bool) → rank f n ≤ (if b then suc (rank f n) else rank f n)
    go true = omega arith
    go false = omega arith

pub rank_le : (f : ℕ → Bool) (d n : ℕ) → rank f n ≤ rank f (n + d)
rank_le f zero n = subst (λ x. rank f n ≤ rank f x) (let e : n ≡ n + 0 = omega arith in e) (omega arith)
rank_le f (suc d) n = let grows = rank_grows f (n + d) in let before = rank_le f d n in
    subst (λ x. rank f n ≤ rank f x) (let e : suc (n + d) ≡ n + suc d = omega arith in e) (omega arith)

pub rank_below : (f : ℕ → Bool) (n m : ℕ) → n < m → f n ≡ true → rank f n < rank f m
rank_below f n m h e = let le = rank_le f (m - suc n) (suc n) in let next = rank_next f n e in
    let at : rank f (suc n) ≤ rank f m = subst (λ x. rank f (suc n) ≤ rank f x) (let e : suc n + (m - suc n) ≡ m = omega arith in e) le in
    omega arith

pub rank_same : (f : ℕ → Bool) (n m : ℕ) → f n ≡ true → f m ≡ true → rank f n ≡ rank f m → n ≡ m
rank_same f n m e g same = elim (cases_order n m) [
  | inl h ↦ h
  | inr (inl h) ↦ (let lt = rank_below f n m h e in absurd (omega arith))
  | inr (inr h) ↦ (let lt = rank_below f m n h g in absurd (omega arith))
]

pub rank_stays : (f : ℕ → Bool) (n : ℕ) → f n ≡ false → rank f (suc n) ≡ rank f n
unfolding rank
rank_stays f n e = rw e refl

pub rank_zero : (f : ℕ → Bool) → rank f zero ≡ 0
unfolding rank
rank_zero f = refl

-- each number below the rank of n is the rank of one below n that passes
pub rank_onto : (f : ℕ → Bool) (n k : ℕ) → k < rank f n → (u : ℕ) × (u < n) × (f u ≡ true) × (rank f u ≡ k)
rank_onto f zero k h = let z = rank_zero f in absurd (omega arith)
rank_onto f (suc n) k h = go (cases_Bool (f n)) (cases_eq k (rank f n)) (λ l. rank_onto f n k l)
  where
    go : (f n ≡ true) ⊎ (f n ≡ false) → (k ≡ rank f n) ⊎ (k ≡ rank f n → ⊥)
        → (k < rank f n → (u : ℕ) × (u < n) × (f u ≡ true) × (rank f u ≡ k)) → (u : ℕ) × (u < suc n) × (f u ≡ true) × (rank f u ≡ k)
    go (inl e) (inl at) more = (n, omega arith, e, sym at)
    go (inl e) (inr ne) more = let step = rank_next f n e in let (u, l, g, r) = more (omega arith) in (u, omega arith, g, r)
    go (inr e) at more = let step = rank_stays f n e in let (u, l, g, r) = more (omega arith) in (u, omega arith, g, r)
