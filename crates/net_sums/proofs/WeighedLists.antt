-- Sums over lists of names, and what a sum makes of lists of groups.
use Rattle.std.proofs.Common.{◌≡◌, inl, inr, ℕ, zero, suc, ◌+◌, ◌<◌, Bool, true, false, cond, filter, nat_eq, List, [], ◌∷◌, ◌++◌, length, map, get_or, refl, sym, ap, ◌∙◌, arith, if◌then◌else◌, eq-eqb, ne_eqb}
use Rattle.std.specs.List.{range_with_len, sum_by}
use Rattle.std.proofs.lemmas.Bool.{cases_eq}
use Rattle.std.proofs.lemmas.List.Sums.{sum_by-cons}
use Rattle.basic_kinds.specs.Sorts.{Sort, how_many}
use Rattle.basic_kinds.specs.Sums.{Counted, Wide, total_of}
use Rattle.net_laws.proofs.Among.{Among}
use Rattle.plain_split.specs.SharedPaths.{joined}
use Rattle.plain_split.specs.OneWait.{many}
use Rattle.plain_split.proofs.OneWaitWeb.{sum_of}
use Rattle.net_sums.specs.NodeSums.{IsSum}

pub sum_is : {A : Type 0} (f : A → ℕ) (xs : List A) → sum_by f xs ≡ sum_of f xs
sum_is f [] = refl
sum_is f (x ∷ xs) = sum_by-cons f x xs ∙ ap (λ n. f x + n) (sum_is f xs)

pub sum_append : {A : Type 0} (f : A → ℕ) (xs ys : List A) → sum_of f (xs ++ ys) ≡ sum_of f xs + sum_of f ys
sum_append f [] ys = omega arith
sum_append f (x ∷ xs) ys = omega (arith, sum_append f xs ys)

pub sum_map : {A B : Type 0} (f : B → ℕ) (h : A → B) (xs : List A) → sum_of f (map h xs) ≡ sum_of (λ x. f (h x)) xs
sum_map f h [] = refl
sum_map f h (x ∷ xs) = ap (λ n. f (h x) + n) (sum_map f h xs)

pub sum_filter : {A : Type 0} (f : A → ℕ) (q : A → Bool) (xs : List A) → sum_of f (filter q xs) ≡ sum_of (λ x. if q x then f x else 0) xs
sum_filter f q [] = refl
sum_filter f q (x ∷ xs) = by (q x) (sum_filter f q xs)
  where
    by : (b : Bool) → sum_of f (filter q xs) ≡ sum_of (λ x. if q x then f x else 0) xs → sum_of f (cond b (x ∷ filter q xs) (filter q xs)) ≡ (if b then f x else 0) + sum_of (λ x. if q x then f x else 0) xs
    by true e = omega (arith, e)
    by false e = omega (arith, e)

pub sum_same : {A : Type 0} (f h : A → ℕ) (xs : List A) → ((x : A) → Among x xs → f x ≡ h x) → sum_of f xs ≡ sum_of h xs
sum_same f h [] e = refl
sum_same f h (x ∷ xs) e = omega (arith, e x (inl refl), sum_same f h xs (λ y a. e y (inr a)))

pub sum_none : {A : Type 0} (f : A → ℕ) (xs : List A) → ((x : A) → Among x xs → f x ≡ 0) → sum_of f xs ≡ 0
sum_none f [] e = refl
sum_none f (x ∷ xs) e = omega (arith, e x (inl refl), sum_none f xs (λ y a. e y (inr a)))

pub sum_both : {A : Type 0} (f h : A → ℕ) (xs : List A) → sum_of (λ x. f x + h x) xs ≡ sum_of f xs + sum_of h xs
sum_both f h [] = refl
sum_both f h (x ∷ xs) = omega (arith, sum_both f h xs)

-- the same number for each, by how many there are
pub sum_long : {A B : Type 0} (v : ℕ) (xs : List A) (ys : List B) → length xs ≡ length ys → sum_of (λ x. v) xs ≡ sum_of (λ y. v) ys
sum_long v [] [] e = refl
sum_long v [] (y ∷ ys) e = absurd (omega (arith, e))
sum_long v (x ∷ xs) [] e = absurd (omega (arith, e))
sum_long v (x ∷ xs) (y ∷ ys) e = ap (λ n. v + n) (sum_long v xs ys (omega (arith, e)))

-- one number among those from a on
pub sum_one : (f : ℕ → ℕ) (v a n : ℕ) → v < a + n → (v < a → sum_of (λ w. if nat_eq w v then f w else 0) (range_with_len a n) ≡ 0)
    × (a < suc v → sum_of (λ w. if nat_eq w v then f w else 0) (range_with_len a n) ≡ f v)
sum_one f v a zero h = ((λ less. refl), (λ more. absurd (omega arith)))
sum_one f v a (suc n) h =
    let (before, after) = sum_one f v (a + 1) n (omega arith) in (
      (λ less. omega (arith, before (omega arith), ap (λ b. if b then f a else 0) (ne_eqb a v (λ e. omega arith)))),
      (λ more. elim (cases_eq a v) [
        | inl e ↦ omega (arith, before (omega arith), ap (λ b. if b then f a else 0) (eq-eqb a v e), ap f e)
        | inr e ↦ omega (arith, after (omega arith), ap (λ b. if b then f a else 0) (ne_eqb a v e))
      ]),
    )

pub sum_joined : {A B : Type 0} (f : B → ℕ) (h : A → List B) (xs : List A) → sum_of f (joined h xs) ≡ sum_of (λ x. sum_of f (h x)) xs
sum_joined f h [] = refl
sum_joined f h (x ∷ xs) = omega (arith, sum_append f (h x) (joined h xs), sum_joined f h xs)

-- ---- what a sum makes of a list

module _ (sum : Counted → Sort → ℕ) (s : Sort) where
  pub total_both : (xs ys : List Counted) → total_of sum (xs ++ ys) s ≡ total_of sum xs s + total_of sum ys s
  total_both [] ys = omega arith
  total_both (x ∷ xs) ys = omega (arith, total_both xs ys)

  pub total_map : {A : Type 0} (c : A → Counted) (xs : List A) → total_of sum (map c xs) s ≡ sum_of (λ x. sum (c x) s) xs
  total_map c [] = refl
  total_map c (x ∷ xs) = ap (λ n. sum (c x) s + n) (total_map c xs)

  pub total_same : {A : Type 0} (f : A → ℕ) (c : A → Counted) (xs : List A) → ((x : A) → Among x xs → f x ≡ sum (c x) s) → sum_of f xs ≡ total_of sum (map c xs) s
  total_same f c xs h = sum_same f (λ x. sum (c x) s) xs h ∙ sym (total_map c xs)

  pub total_chosen : {A : Type 0} (c : A → Counted) (q : A → Bool) (xs : List A) → total_of sum (map c (filter q xs)) s ≡ sum_of (λ x. if q x then sum (c x) s else 0) xs
  total_chosen c q xs = total_map c (filter q xs) ∙ sum_filter (λ x. sum (c x) s) q xs

  -- what is left out is of width less than two
  pub kept_wide : IsSum sum → (q : Sort) (xs : List ℕ) → (if many xs then sum (Wide q (length xs)) s else 0) ≡ sum (Wide q (length xs)) s
  kept_wide w q [] = sym (w.none q s)
  kept_wide w q (x ∷ []) = sym (w.wire q s)
  kept_wide w q (x ∷ y ∷ xs) = refl

  pub total_none : {A : Type 0} (c : A → Counted) (xs : List A) → ((x : A) → Among x xs → sum (c x) s ≡ 0) → total_of sum (map c xs) s ≡ 0
  total_none c xs h = total_map c xs ∙ sum_none (λ x. sum (c x) s) xs h

pub sum_two : {A : Type 0} (f h : A → ℕ) (xs : List A) → sum_of (λ x. f x + (h x + 0)) xs ≡ sum_of f xs + sum_of h xs
sum_two f h [] = refl
sum_two f h (x ∷ xs) = omega (arith, sum_two f h xs)

pub sum_three : {A : Type 0} (f h k : A → ℕ) (xs : List A) → sum_of (λ x. f x + (h x + (k x + 0))) xs ≡ sum_of f xs + (sum_of h xs + sum_of k xs)
sum_three f h k [] = refl
sum_three f h k (x ∷ xs) = omega (arith, sum_three f h k xs)

filter_many : {A : Type 0} (q : A → Bool) (xs : List A) → length (filter q xs) ≡ how_many q xs
filter_many q [] = refl
filter_many q (x ∷ xs) = by (q x) (filter_many q xs)
  where
    by : (b : Bool) → length (filter q xs) ≡ how_many q xs → length (cond b (x ∷ filter q xs) (filter q xs)) ≡ (if b then 1 else 0) + how_many q xs
    by true e = omega (arith, e)
    by false e = omega (arith, e)

-- the same number for each that passes, by how many pass
pub chosen_long : {A B : Type 0} (v : ℕ) (p : A → Bool) (q : B → Bool) (xs : List A) (ys : List B) → how_many p xs ≡ how_many q ys
    → sum_of (λ x. if p x then v else 0) xs ≡ sum_of (λ y. if q y then v else 0) ys
chosen_long v p q xs ys e = sym (sum_filter (λ x. v) p xs) ∙ sum_long v (filter p xs) (filter q ys) (filter_many p xs ∙ e ∙ sym (filter_many q ys)) ∙ sum_filter (λ y. v) q ys

-- by the places of a list
pub total_places : {A : Type 0} (sum : Counted → Sort → ℕ) (s : Sort) (z : A) (f : ℕ → ℕ) (c : A → Counted) (ys : List A) (a : ℕ)
    → ((i : ℕ) → i < length ys → f (a + i) ≡ sum (c (get_or ys i z)) s) → sum_of f (range_with_len a (length ys)) ≡ total_of sum (map c ys) s
total_places sum s z f c [] a h = refl
total_places sum s z f c (y ∷ ys) a h = omega (
  arith,
  h 0 (omega arith),
  ap f (let e : a ≡ a + 0 = omega arith in e),
  total_places sum s z f c ys (a + 1) (λ i low. omega (arith, h (suc i) (omega arith), ap f (let e : a + suc i ≡ a + 1 + i = omega arith in e))),
)

-- as many places pass a test as items pass theirs
pub long_places : {A : Type 0} (z : A) (p : ℕ → Bool) (q : A → Bool) (ys : List A) (a : ℕ) → ((i : ℕ) → i < length ys → p (a + i) ≡ q (get_or ys i z))
    → length (filter p (range_with_len a (length ys))) ≡ how_many q ys
long_places z p q [] a h = refl
long_places {A = A} z p q (y ∷ ys) a h = by (p a) (ap p (let e : a ≡ a + 0 = omega arith in e) ∙ h 0 (omega arith))
    (long_places z p q ys (a + 1) (λ i low. ap p (let e : a + 1 + i ≡ a + suc i = omega arith in e) ∙ h (suc i) (omega arith)))
  where
    by : (b : Bool) → b ≡ q y → length (filter p (range_with_len (a + 1) (length ys))) ≡ how_many q ys
        → length (cond b (a ∷ filter p (range_with_len (a + 1) (length ys))) (filter p (range_with_len (a + 1) (length ys)))) ≡ (if q y then 1 else 0) + how_many q ys
    by true e n = omega (arith, n, ap {B = ℕ} (λ (b : Bool). if b then 1 else 0) e)
    by false e n = omega (arith, n, ap {B = ℕ} (λ (b : Bool). if b then 1 else 0) e)
