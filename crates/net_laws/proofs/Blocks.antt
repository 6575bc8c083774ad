-- Lists that are made of blocks.
use Rattle.std.proofs.Common.{◌≡◌, ℕ, zero, suc, ◌+◌, ◌<◌, List, ◌++◌, map, length, inl, inr, refl, ap, subst, ◌∙◌, arith, length-append}
use Rattle.std.specs.List.{AllByRecursion, range_with_len}
use Rattle.std.proofs.lemmas.Bool.{cases_lt}
use Rattle.std.proofs.lemmas.List.{map-append}
use Rattle.basic_kinds.specs.Totals.{total}
use Rattle.net_laws.specs.ForkChain.{each}
use Rattle.net_laws.proofs.Among.{Among, Distinct}
use Rattle.net_laws.proofs.Rows.{among_left, among_right, among_either, all_both, distinct_both, range_both}

module _ {A : Type 0} (f : ℕ → List A) where
  pub among_each : (k : ℕ) (x : A) → Among x (each f k) → (r : ℕ) × (r < k) × Among x (f r)
  among_each zero x h = absurd h
  among_each (suc k) x h = elim (among_either x (each f k) (f k) h) [
    | inl a ↦ let (r, low, b) = among_each k x a in (r, omega arith, b)
    | inr b ↦ (k, omega arith, b)
  ]

  pub each_among : (k r : ℕ) (x : A) → r < k → Among x (f r) → Among x (each f k)
  each_among zero r x h a = absurd (omega arith)
  each_among (suc k) r x h a = elim (cases_lt r k) [
    | inl low ↦ among_left x (each f k) (f k) (each_among k r x low a)
    | inr last ↦ let e : r ≡ k = omega arith in among_right x (each f k) (f k) (subst (λ q. Among x (f q)) e a)
  ]

  pub each_all : (P : A → Type 0) (k : ℕ) → ((r : ℕ) → r < k → AllByRecursion P (f r)) → AllByRecursion P (each f k)
  each_all P zero h = tt
  each_all P (suc k) h = all_both P (each f k) (f k) (each_all P k (λ r low. h r (omega arith))) (h k (omega arith))

  pub distinct_each : (k : ℕ) → ((r : ℕ) → r < k → Distinct (f r)) → ((r q : ℕ) (x : A) → Among x (f r) → Among x (f q) → r ≡ q) → Distinct (each f k)
  distinct_each zero h one = tt
  distinct_each (suc k) h one =
      distinct_both (each f k) (f k) (distinct_each k (λ r low. h r (omega arith)) one) (h k (omega arith))
      (λ x a b. let (r, low, c) = among_each k x a in let e : r ≡ k = one r k x c b in omega arith)

  pub each_long : (k : ℕ) → length (each f k) ≡ total k (λ r. length (f r))
  unfolding total
  each_long zero = refl
  each_long (suc k) = omega (arith, length-append (each f k) (f k), each_long k)

  pub number_each : (number : A → ℕ) (b : ℕ) (w : ℕ → ℕ) (k : ℕ) → ((r : ℕ) → r < k → map number (f r) ≡ range_with_len (b + total r w) (w r))
      → map number (each f k) ≡ range_with_len b (total k w)
  unfolding total
  number_each number b w zero h = refl
  number_each number b w (suc k) h =
      map-append number (each f k) (f k) ∙ ap (λ l. l ++ map number (f k)) (number_each number b w k (λ r low. h r (omega arith)))
      ∙ ap (λ l. range_with_len b (total k w) ++ l) (h k (omega arith)) ∙ range_both b (total k w) (w k)
