-- Ranks in a list: of its numbers, and the numbers at ranks.
use Rattle.std.proofs.Common.{◌≡◌, ℕ, zero, suc, ◌+◌, ◌<◌, Bool, true, false, true≢false, ◌||◌, List, [], ◌∷◌, length, get_or, drop, Option, refl, sym, ap, ◌∙◌, arith, eqb-true, eq-eqb}
use Rattle.std.specs.Prelude.{IsTrue, nat_eq, if◌then◌else◌}
use Rattle.std.specs.List.{AllByRecursion, IsDistinct}
use Rattle.cmd_tree.specs.Lists.{is_in}
use Rattle.cmd_rename.specs.Symbols.{rank}
use Rattle.cmd_rename.specs.Table.{number_by}

-- the table has the ranks of the numbers from a place on
abbrev pub HasRanks : List (Option ℕ) → List ℕ → ℕ → Type 0
HasRanks t xs left = (a : ℕ) → IsTrue (is_in a (drop left xs)) → number_by t a ≡ left + rank (drop left xs) a

pub or_second : (b c : Bool) → IsTrue c → IsTrue (b || c)
or_second true c h = refl
or_second false c h = h

-- the number at a place below the length is in the list
pub got_in : (xs : List ℕ) (k : ℕ) → k < length xs → IsTrue (is_in (get_or xs k 0) xs)
got_in [] k l = absurd (omega (arith, l))
got_in (x ∷ xs) zero l = ap (λ b. b || is_in x xs) (eq-eqb x x refl)
got_in (x ∷ xs) (suc k) l = or_second (nat_eq (get_or xs k 0) x) (is_in (get_or xs k 0) xs) (got_in xs k (omega (arith, l)))

pub got_rank : (xs : List ℕ) (a : ℕ) → IsTrue (is_in a xs) → get_or xs (rank xs a) 0 ≡ a
got_rank [] a h = absurd (cc)
got_rank (x ∷ xs) a h = by (nat_eq a x) refl h (λ k. got_rank xs a k)
  where
    by : (b : Bool) → nat_eq a x ≡ b → IsTrue (b || is_in a xs) → (IsTrue (is_in a xs) → get_or xs (rank xs a) 0 ≡ a) → get_or (x ∷ xs) (if b then 0 else suc (rank xs a)) 0 ≡ a
    by true e k f = sym (eqb-true a x e)
    by false e k f = f k

differs : (x : ℕ) (xs : List ℕ) (k : ℕ) → AllByRecursion (λ y. nat_eq x y ≡ false) xs → k < length xs → nat_eq (get_or xs k 0) x ≡ false
differs x [] k h l = absurd (omega (arith, l))
differs x (y ∷ xs) zero h l = by (nat_eq y x) refl
  where
    by : (b : Bool) → nat_eq y x ≡ b → b ≡ false
    by true e = absurd (true≢false (sym (eq-eqb x y (sym (eqb-true y x e))) ∙ h.0))
    by false e = refl
differs x (y ∷ xs) (suc k) h l = differs x xs k h.1 (omega (arith, l))

pub rank_got : (xs : List ℕ) (k : ℕ) → IsDistinct nat_eq xs → k < length xs → rank xs (get_or xs k 0) ≡ k
unfolding IsDistinct
rank_got [] k d l = absurd (omega (arith, l))
rank_got (x ∷ xs) zero d l = ap (λ b. if b then 0 else suc (rank xs x)) (eq-eqb x x refl)
rank_got (x ∷ xs) (suc k) d l =
    ap (λ b. if b then 0 else suc (rank xs (get_or xs k 0))) (differs x xs k d.0 (omega (arith, l))) ∙ ap suc (rank_got xs k d.1 (omega (arith, l)))

pub rank_below : (xs : List ℕ) (a : ℕ) → IsTrue (is_in a xs) → rank xs a < length xs
rank_below [] a h = absurd (cc)
rank_below (x ∷ xs) a h = by (nat_eq a x) h (λ k. rank_below xs a k)
  where
    by : (b : Bool) → IsTrue (b || is_in a xs) → (IsTrue (is_in a xs) → rank xs a < length xs) → (if b then 0 else suc (rank xs a)) < length (x ∷ xs)
    by true k f = omega arith
    by false k f = omega (arith, f k)
