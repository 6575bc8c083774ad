-- Counts of crossings.
use Rattle.std.proofs.Common.{◌≡◌, ℕ, ◌+◌, Bool, true, false, cond, ◌||◌, nat_lt, List, [], ◌∷◌, refl, sym, ap, ◌∙◌, arith, lt-ltb, count_by}
use Rattle.std.specs.List.{list_any}
use Rattle.std.proofs.lemmas.List.Recursion.{is_count_by}

module _ {A : Type 0} where
  times : (A → Bool) → List A → ℕ
  times p [] = 0
  times p (x ∷ xs) = cond (p x) (1 + times p xs) (times p xs)

  times_any : (p : A → Bool) (xs : List A) → nat_lt 0 (times p xs) ≡ list_any p xs
  unfolding times
  times_any p [] = refl
  times_any p (x ∷ xs) = by (p x) (times_any p xs)
    where
      by : (b : Bool) → nat_lt 0 (times p xs) ≡ list_any p xs
          → nat_lt 0 (cond b (1 + times p xs) (times p xs)) ≡ (b || list_any p xs)
      by true e = lt-ltb 0 (1 + times p xs) (omega arith)
      by false e = e

  pub count_more : (p : A → Bool) (x : A) (xs : List A) → count_by p (x ∷ xs) ≡ cond (p x) (1 + count_by p xs) (count_by p xs)
  unfolding times
  count_more p x xs =
      let same : (ys : List A) → times p ys ≡ count_by p ys = is_count_by (times p) p refl (λ y ys. refl) in
      sym (same (x ∷ xs)) ∙ ap (λ k. cond (p x) (1 + k) k) (same xs)

  pub count_any : (p : A → Bool) (xs : List A) → nat_lt 0 (count_by p xs) ≡ list_any p xs
  unfolding times
  count_any p xs = ap (nat_lt 0) (sym (is_count_by (times p) p refl (λ x ys. refl) xs)) ∙ times_any p xs
