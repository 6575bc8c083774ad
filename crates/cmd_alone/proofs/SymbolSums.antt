-- Sums over the symbols of a command, and over those of one process.
use Rattle.std.proofs.Common.{◌≡◌, ℕ, zero, suc, ◌+◌, ◌<◌, ◌≤◌, Bool, true, false, true≢false, ◌||◌, cond, List, [], ◌∷◌, ◌++◌, map, length, filter, get_or, refl, sym, ap, ◌∙◌, arith, eqb-true, eq-eqb}
use Rattle.std.specs.Prelude.{nat_eq, if◌then◌else◌}
use Rattle.std.specs.List.{AllByRecursion, IsDistinct, range_with_len}
use Rattle.cmd_tree.specs.Lists.{is_in}
use Rattle.basic_kinds.specs.Sorts.{Sort}
use Rattle.basic_kinds.specs.Sums.{Counted, total_of, sum_over}

-- ---- totals of lists
pub total_joined : (sum : Counted → Sort → ℕ) (xs ys : List Counted) (t : Sort) → total_of sum (xs ++ ys) t ≡ total_of sum xs t + total_of sum ys t
total_joined sum [] ys t = omega arith
total_joined sum (x ∷ xs) ys t = omega (arith, total_joined sum xs ys t)

pub total_map : (sum : Counted → Sort → ℕ) (F : ℕ → Counted) (xs : List ℕ) (t : Sort) → total_of sum (map F xs) t ≡ sum_over (λ a. sum (F a) t) xs
total_map sum F [] t = refl
total_map sum F (x ∷ xs) t = ap (λ n. sum (F x) t + n) (total_map sum F xs t)

pub total_filter : (sum : Counted → Sort → ℕ) (kind : Counted) (test : ℕ → Bool) (xs : List ℕ) (t : Sort) → total_of sum (map (λ a. kind) (filter test xs)) t ≡ sum_over (λ a. if test a then sum kind t else 0) xs
total_filter sum kind test [] t = refl
total_filter sum kind test (a ∷ xs) t = by (test a) (total_filter sum kind test xs t)
  where
    by : (b : Bool) → total_of sum (map (λ c. kind) (filter test xs)) t ≡ sum_over (λ c. if test c then sum kind t else 0) xs
        → total_of sum (map (λ c. kind) (cond b (a ∷ filter test xs) (filter test xs))) t ≡ (if b then sum kind t else 0) + sum_over (λ c. if test c then sum kind t else 0) xs
    by true e = ap (λ n. sum kind t + n) e
    by false e = omega (arith, e)

-- ---- a sum over the first numbers is one over a list, where nothing else counts
pub sum_same : (h g : ℕ → ℕ) (xs : List ℕ) → ((a : ℕ) → h a ≡ g a) → sum_over h xs ≡ sum_over g xs
sum_same h g [] e = refl
sum_same h g (x ∷ xs) e = λ j. e x j + sum_same h g xs e j

sum_none : (h : ℕ → ℕ) (xs : List ℕ) → ((a : ℕ) → h a ≡ 0) → sum_over h xs ≡ 0
sum_none h [] e = refl
sum_none h (x ∷ xs) e = omega (arith, e x, sum_none h xs e)

-- without what counts for x
abbrev but : (ℕ → ℕ) → ℕ → ℕ → ℕ
but h x a = if nat_eq a x then 0 else h a

but_here : (h : ℕ → ℕ) (x a : ℕ) → a ≡ x → but h x a ≡ 0
but_here h x a e = ap (λ b. if b then 0 else h a) (eq-eqb a x e)

but_other : (h : ℕ → ℕ) (x a : ℕ) → (a ≡ x → ⊥) → but h x a ≡ h a
but_other h x a n = by (nat_eq a x) refl
  where
    by : (b : Bool) → nat_eq a x ≡ b → (if b then 0 else h a) ≡ h a
    by true e = absurd (n (eqb-true a x e))
    by false e = refl

range_past : (h : ℕ → ℕ) (x j n : ℕ) → x < j → sum_over h (range_with_len j n) ≡ sum_over (but h x) (range_with_len j n)
range_past h x j zero l = refl
range_past h x j (suc n) l = λ k. sym (but_other h x j (λ e. absurd (omega (arith, e, l)))) k + range_past h x (j + 1) n (omega (arith, l)) k

range_with : (h : ℕ → ℕ) (x j n : ℕ) → j ≤ x → x < j + n → sum_over h (range_with_len j n) ≡ h x + sum_over (but h x) (range_with_len j n)
range_with h x j zero l u = absurd (omega (arith, l, u))
range_with h x j (suc n) l u = by (nat_eq j x) refl (λ i. range_with h x (j + 1) n (omega (arith, l, i)) (omega (arith, u)))
  where
    here : j ≡ x → h j + sum_over h (range_with_len (j + 1) n) ≡ h x + (but h x j + sum_over (but h x) (range_with_len (j + 1) n))
    here e = omega (arith, ap h e, but_here h x j e, range_past h x (j + 1) n (omega (arith, e)))

    apart : nat_eq j x ≡ false → j ≡ x → ⊥
    apart q e = true≢false (sym (eq-eqb j x e) ∙ q)

    by : (b : Bool) → nat_eq j x ≡ b → ((j ≡ x → ⊥) → sum_over h (range_with_len (j + 1) n) ≡ h x + sum_over (but h x) (range_with_len (j + 1) n))
        → h j + sum_over h (range_with_len (j + 1) n) ≡ h x + (but h x j + sum_over (but h x) (range_with_len (j + 1) n))
    by true q f = here (eqb-true j x q)
    by false q f = omega (arith, f (apart q), but_other h x j (apart q))

but_later : (h : ℕ → ℕ) (x : ℕ) (xs : List ℕ) → AllByRecursion (λ y. nat_eq x y ≡ false) xs → sum_over (but h x) xs ≡ sum_over h xs
but_later h x [] d = refl
but_later h x (y ∷ xs) d = λ k. but_other h x y (λ e. true≢false (sym (eq-eqb x y (sym e)) ∙ d.0)) k + but_later h x xs d.1 k

but_zero : (h : ℕ → ℕ) (x : ℕ) (xs : List ℕ) → ((a : ℕ) → is_in a (x ∷ xs) ≡ false → h a ≡ 0) → (a : ℕ) → is_in a xs ≡ false → but h x a ≡ 0
but_zero h x xs f a e = by (nat_eq a x) (f a)
  where
    by : (b : Bool) → ((b || is_in a xs) ≡ false → h a ≡ 0) → (if b then 0 else h a) ≡ 0
    by true g = refl
    by false g = g e

pub over_list : (h : ℕ → ℕ) (n : ℕ) (xs : List ℕ) → IsDistinct nat_eq xs → AllByRecursion (λ a. a < n) xs → ((a : ℕ) → is_in a xs ≡ false → h a ≡ 0)
    → sum_over h (range_with_len 0 n) ≡ sum_over h xs
unfolding IsDistinct
over_list h n [] d l f = sum_none h (range_with_len 0 n) (λ a. f a refl)
over_list h n (x ∷ xs) d l f = omega (
  arith,
  range_with h x 0 n (omega arith) (omega (arith, l.0)),
  over_list (but h x) n xs d.1 l.1 (but_zero h x xs f),
  but_later h x xs d.0,
)

-- by places in the list
over_places : (g h : ℕ → ℕ) (xs : List ℕ) (j : ℕ) → ((k i : ℕ) → k < length xs → i ≡ j + k → g i ≡ h (get_or xs k 0)) → sum_over g (range_with_len j (length xs)) ≡ sum_over h xs
over_places g h [] j e = refl
over_places g h (x ∷ xs) j e = λ t. e 0 j (omega arith) (omega arith) t
    + over_places g h xs (j + 1) (λ k i l q. e (suc k) i (omega (arith, l)) (omega (arith, q))) t

pub over_numbers : (g h : ℕ → ℕ) (n : ℕ) (xs : List ℕ) → IsDistinct nat_eq xs → AllByRecursion (λ a. a < n) xs → ((a : ℕ) → is_in a xs ≡ false → h a ≡ 0)
    → ((k : ℕ) → k < length xs → g k ≡ h (get_or xs k 0)) → sum_over g (range_with_len 0 (length xs)) ≡ sum_over h (range_with_len 0 n)
over_numbers g h n xs d l f e =
    over_places g h xs 0 (λ k i m q. let same : i ≡ k = omega (arith, q) in ap g same ∙ e k m) ∙ sym (over_list h n xs d l f)
