-- So many rows with one column and all crossings are a shape.
use Rattle.std.specs.Prelude.{◌≡◌, ℕ, zero, suc, ◌+◌, ◌<◌, Bool, true, false, ◌&&◌, ◌||◌, nat_lt, nat_eq, List, map}
use Rattle.std.specs.List.{list_all, list_any, range_with_len}
use Rattle.std.proofs.Common.{refl, sym, ap, subst, ◌∙◌, true≢false, add-one, zero-le}
use Rattle.std.proofs.Math.Nat.{add-zero, zero-add, add-suc, suc-add, le-add_right, lt-suc_self, lt_trans, lt_of_le_of_lt, le_of_suc-le-suc, zero-lt-suc, not-suc-le-zero, le_antisymm}
use Rattle.std.proofs.lemmas.Bool.{lt-ltb, eq-eqb}
use Rattle.basic_kinds.specs.Shapes.{IsShape, is_before, is_rising, is_within}
use Rattle.basic_kinds.specs.ShapeParts.{one_column}

-- so many rows from a on, each with the column 0
abbrev from : ℕ → ℕ → List (ℕ × ℕ)
from a n = map (λ i. (i, 0)) (range_with_len a n)

both : (a b : Bool) → a ≡ true → b ≡ true → (a && b) ≡ true
both true b x y = y
both false b x y = x

left : (a b : Bool) → a ≡ true → (a || b) ≡ true
left true b x = refl
left false b x = absurd (true≢false (sym x))

right : (a b : Bool) → b ≡ true → (a || b) ≡ true
right true b x = refl
right false b x = x

next_more : (a : ℕ) → a < a + 1
next_more a = subst (λ b. a < b) (sym (add-one a)) (lt-suc_self a)

next_sum : (a n : ℕ) → a + 1 + n ≡ a + suc n
next_sum a n = ap (λ b. b + n) (add-one a) ∙ suc-add a n ∙ sym (add-suc a n)

later : (a b n : ℕ) → a < b → list_all (is_before (a, 0)) (from b n) ≡ true
later a b zero low = refl
later a b (suc n) low =
    both (is_before (a, 0) (b, 0)) (list_all (is_before (a, 0)) (from (b + 1) n)) (left (nat_lt a b) (nat_eq a b && nat_lt 0 0) (lt-ltb a b low))
    (later a (b + 1) n (lt_trans low (next_more b)))

rising : (a n : ℕ) → is_rising (from a n) ≡ true
rising a zero = refl
rising a (suc n) = both (list_all (is_before (a, 0)) (from (a + 1) n)) (is_rising (from (a + 1) n)) (later a (a + 1) n (next_more a)) (rising (a + 1) n)

within : (a n k : ℕ) → a + n ≡ k → list_all (is_within k 1) (from a n) ≡ true
within a zero k e = refl
within a (suc n) k e =
    both (is_within k 1 (a, 0)) (list_all (is_within k 1) (from (a + 1) n))
    (both (nat_lt a k) (nat_lt 0 1) (lt-ltb a k (subst (λ m. a < m) (sym (add-suc a n) ∙ e) (lt_of_le_of_lt (le-add_right a n) (lt-suc_self (a + n))))) refl)
    (within (a + 1) n k (next_sum a n ∙ e))

row_in : (i a n k : ℕ) → i < n → a + i ≡ k → list_any (λ p. nat_eq p.0 k) (from a n) ≡ true
row_in i a zero k low e = absurd (not-suc-le-zero low)
row_in zero a (suc n) k low e = left (nat_eq a k) (list_any (λ p. nat_eq p.0 k) (from (a + 1) n)) (eq-eqb a k (sym (add-zero a) ∙ e))
row_in (suc i) a (suc n) k low e =
    right (nat_eq a k) (list_any (λ p. nat_eq p.0 k) (from (a + 1) n)) (row_in i (a + 1) n k (le_of_suc-le-suc low) (next_sum a i ∙ e))

pub is_column : (n : ℕ) → IsShape (suc n) 1 (one_column (suc n))
is_column n = record {
  some_row = zero-lt-suc n;
  some_column = zero-lt-suc 0;
  rising = rising 0 (suc n);
  within = within 0 (suc n) (suc n) (zero-add (suc n));
  each_row = λ i low. row_in i 0 (suc n) i low (zero-add i);
  each_column = λ j low. left (nat_eq 0 j) (list_any (λ p. nat_eq p.1 j) (from 1 n)) (eq-eqb 0 j (le_antisymm zero-le (le_of_suc-le-suc low)));
}
