-- Permutations of numbers, by counts and by taking one number out.
use Rattle.std.proofs.Common.{◌≡◌, ℕ, ◌+◌, ◌<◌, ◌≤◌, Bool, true, false, true≢false, cond, ◌||◌, List, [], ◌∷◌, ◌++◌, nat_eq, if◌then◌else◌, IsTrue, refl, sym, ap, ◌∙◌, subst, arith, count_by, eqb-true, eq-eqb, IsPermutation}
use Rattle.std.specs.List.{AllByRecursion, IsDistinct}
use Rattle.std.proofs.lemmas.List.Recursion.{is_count_by}
use Rattle.std.proofs.lemmas.List.Sorted.{IsPermutation-refl, IsPermutation-sym, IsPermutation-trans, IsPermutation-cons, IsPermutation-middle, sum_by-IsPermutation, length_permutation}
use Rattle.std.proofs.lemmas.List.{nil_from_length}
use Rattle.cmd_tree.specs.Lists.{is_in}
use Rattle.cmd_tree.specs.Residual.{without}

-- how often a stands in t
abbrev pub count : ℕ → List ℕ → ℕ
count a [] = 0
count a (x ∷ t) = if nat_eq a x then 1 + count a t else count a t

pub count_is : (a : ℕ) (xs : List ℕ) → count a xs ≡ count_by (nat_eq a) xs
count_is a xs = is_count_by (count a) (nat_eq a) refl (λ x ys. refl) xs

pub perm_counts : (xs ys : List ℕ) → IsPermutation xs ys → (a : ℕ) → count a xs ≡ count a ys
perm_counts xs ys h a = count_is a xs ∙ sym (sum_by-IsPermutation (λ x. cond (nat_eq a x) 1 0) xs ys h) ∙ sym (count_is a ys)

pub count_same : (a : ℕ) (t : List ℕ) → count a (a ∷ t) ≡ 1 + count a t
count_same a t = ap (λ b. if b then 1 + count a t else count a t) (eq-eqb a a refl)

-- what a symbol in front adds
pub count_cancel : (a x : ℕ) (u w : List ℕ) → count a (x ∷ u) ≡ count a (x ∷ w) → count a u ≡ count a w
count_cancel a x u w = by (nat_eq a x) (count a u) (count a w)
  where
    by : (b : Bool) (m n : ℕ) → (if b then 1 + m else m) ≡ (if b then 1 + n else n) → m ≡ n
    by true m n e = omega arith
    by false m n e = e

pub is_in_from_count : (a : ℕ) (xs : List ℕ) → 0 < count a xs → IsTrue (is_in a xs)
is_in_from_count a [] h = absurd (omega arith)
is_in_from_count a (x ∷ xs) h = by (nat_eq a x) h (λ k. is_in_from_count a xs k)
  where
    by : (b : Bool) → 0 < (if b then 1 + count a xs else count a xs) → (0 < count a xs → IsTrue (is_in a xs)) → IsTrue (b || is_in a xs)
    by true h k = refl
    by false h k = k h

pub count_from_is_in : (a : ℕ) (xs : List ℕ) → IsTrue (is_in a xs) → 0 < count a xs
count_from_is_in a [] h = absurd (true≢false (sym h))
count_from_is_in a (x ∷ xs) h = by (nat_eq a x) h (λ k. count_from_is_in a xs k)
  where
    by : (b : Bool) → IsTrue (b || is_in a xs) → (IsTrue (is_in a xs) → 0 < count a xs) → 0 < (if b then 1 + count a xs else count a xs)
    by true h k = omega arith
    by false h k = k h

-- a number that is there can stand in front
pub pull : (a : ℕ) (xs : List ℕ) → IsTrue (is_in a xs) → IsPermutation xs (a ∷ without a xs)
pull a [] h = absurd (true≢false (sym h))
pull a (x ∷ xs) h = by (nat_eq a x) refl h (λ k. pull a xs k)
  where
    by : (b : Bool) → nat_eq a x ≡ b → IsTrue (b || is_in a xs) → (IsTrue (is_in a xs) → IsPermutation xs (a ∷ without a xs)) → IsPermutation (x ∷ xs) (a ∷ (if b then xs else x ∷ without a xs))
    by true e h k = subst (λ y. IsPermutation (x ∷ xs) (y ∷ xs)) (sym (eqb-true a x e)) (IsPermutation-refl (x ∷ xs))
    by false e h k = IsPermutation-trans _ _ _ (IsPermutation-cons x xs (a ∷ without a xs) (k h)) (IsPermutation-middle (x ∷ []) a (without a xs))

-- lists with equal counts are permutations of one another
pub counts_perm : (xs ys : List ℕ) → ((a : ℕ) → count a xs ≡ count a ys) → IsPermutation xs ys
counts_perm [] [] e = IsPermutation-refl []
counts_perm [] (y ∷ ys) e = absurd (omega (arith, e y, count_same y ys))
counts_perm (x ∷ xs) ys e =
    let h : IsTrue (is_in x ys) = is_in_from_count x ys (omega (arith, e x, count_same x xs)) in
    let p : IsPermutation ys (x ∷ without x ys) = pull x ys h in
    let rest : IsPermutation xs (without x ys) = counts_perm xs (without x ys) (λ a. count_cancel a x xs (without x ys) (e a ∙ perm_counts ys (x ∷ without x ys) p a)) in
    IsPermutation-trans _ _ _ (IsPermutation-cons x xs (without x ys) rest) (IsPermutation-sym _ _ p)

-- the first number of a permutation is there, and the others are a permutation of what is left
pub take_perm : (xs : List ℕ) (a : ℕ) (w : List ℕ) → IsPermutation xs (a ∷ w) → IsTrue (is_in a xs) × IsPermutation (without a xs) w
take_perm xs a w h =
    let there : IsTrue (is_in a xs) = is_in_from_count a xs (omega (arith, perm_counts xs (a ∷ w) h a, count_same a w)) in
    (there, counts_perm (without a xs) w (λ b. count_cancel b a (without a xs) w (sym (perm_counts xs _ (pull a xs there) b) ∙ perm_counts xs (a ∷ w) h b)))

pub put_perm : (xs : List ℕ) (a : ℕ) (w : List ℕ) → IsTrue (is_in a xs) → IsPermutation (without a xs) w → IsPermutation xs (a ∷ w)
put_perm xs a w h p = IsPermutation-trans _ _ _ (pull a xs h) (IsPermutation-cons a (without a xs) w p)

pub perm_nil : (xs : List ℕ) → IsPermutation xs [] → xs ≡ []
perm_nil xs h = nil_from_length xs (sym (length_permutation xs [] h))

pub nil_perm : (xs : List ℕ) → IsPermutation [] xs → xs ≡ []
nil_perm xs h = nil_from_length xs (length_permutation [] xs h)

pub count_without : (a b : ℕ) (xs : List ℕ) → IsTrue (is_in a xs) → count b xs ≡ count b (a ∷ without a xs)
count_without a b xs h = perm_counts xs (a ∷ without a xs) (pull a xs h) b

pub count_append : (a : ℕ) (xs ys : List ℕ) → count a (xs ++ ys) ≡ count a xs + count a ys
count_append a [] ys = omega arith
count_append a (x ∷ xs) ys = by (nat_eq a x) (count a xs) (count a (xs ++ ys)) (count_append a xs ys)
  where
    by : (b : Bool) (m k : ℕ) → k ≡ m + count a ys → (if b then 1 + k else k) ≡ (if b then 1 + m else m) + count a ys
    by true m k e = omega arith
    by false m k e = e

-- in a list of different numbers each stands at most once
absent : (a : ℕ) (xs : List ℕ) → AllByRecursion (λ y. nat_eq a y ≡ false) xs → count a xs ≡ 0
absent a [] h = refl
absent a (x ∷ xs) h = ap (λ b. if b then 1 + count a xs else count a xs) h.0 ∙ absent a xs h.1

pub distinct_once : (a : ℕ) (xs : List ℕ) → IsDistinct nat_eq xs → count a xs ≤ 1
unfolding IsDistinct
distinct_once a [] h = omega arith
distinct_once a (x ∷ xs) h = by (nat_eq a x) refl (distinct_once a xs h.1)
  where
    by : (b : Bool) → nat_eq a x ≡ b → count a xs ≤ 1 → (if b then 1 + count a xs else count a xs) ≤ 1
    by true e l = omega (arith, absent a xs (subst (λ z. AllByRecursion (λ y. nat_eq z y ≡ false) xs) (sym (eqb-true a x e)) h.0))
    by false e l = l
