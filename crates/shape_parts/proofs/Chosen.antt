-- Numbers that pass a test: which they are, and how many stand before each.
use Rattle.std.specs.Prelude.{◌&&◌, ◌||◌, if◌then◌else◌}
use Rattle.std.proofs.Common.{◌≡◌, ℕ, zero, suc, ◌+◌, ◌-◌, ◌<◌, ◌≤◌, Bool, true, false, true≢false, List, [], ◌∷◌, length, map, get_or, cond, refl, sym, ap, ◌∙◌, arith}
use Rattle.std.specs.List.{filter, list_any, range_with_len, AllByRecursion}
use Rattle.basic_kinds.specs.Sorts.{how_many}

-- what is left of a range, where two tests agree on it
pub filter_same : (f g : ℕ → Bool) (a n : ℕ) → ((x : ℕ) → a ≤ x → x < a + n → f x ≡ g x) → filter f (range_with_len a n) ≡ filter g (range_with_len a n)
filter_same f g a zero h = refl
filter_same f g a (suc n) h =
    ap (λ (b : Bool). cond b (a ∷ filter f (range_with_len (a + 1) n)) (filter f (range_with_len (a + 1) n))) (h a (omega arith) (omega arith))
    ∙ ap (λ xs. cond (g a) (a ∷ xs) xs) (filter_same f g (a + 1) n (λ x low high. h x (omega arith) (omega arith)))

pub how_many_same : (f g : ℕ → Bool) (a n : ℕ) → ((x : ℕ) → a ≤ x → x < a + n → f x ≡ g x) → how_many f (range_with_len a n) ≡ how_many g (range_with_len a n)
how_many_same f g a zero h = refl
how_many_same f g a (suc n) h =
    ap (λ (b : Bool). (if b then 1 else 0) + how_many f (range_with_len (a + 1) n)) (h a (omega arith) (omega arith))
    ∙ ap (λ k. (if g a then 1 else 0) + k) (how_many_same f g (a + 1) n (λ x low high. h x (omega arith) (omega arith)))

pub filter_below : (f : ℕ → Bool) (a n m : ℕ) → a + n ≤ m → AllByRecursion (λ x. x < m) (filter f (range_with_len a n))
filter_below f a zero m h = tt
filter_below f a (suc n) m h = by (f a) (filter_below f (a + 1) n m (omega arith))
  where
    by : (b : Bool) → AllByRecursion (λ x. x < m) (filter f (range_with_len (a + 1) n)) → AllByRecursion (λ x. x < m) (cond b (a ∷ filter f (range_with_len (a + 1) n)) (filter f (range_with_len (a + 1) n)))
    by true r = (omega arith, r)
    by false r = r

-- two functions agree on what passes the test
pub map_chosen : {A : Type 0} (f : ℕ → Bool) (g h : ℕ → A) (a n : ℕ) → ((x : ℕ) → x < a + n → f x ≡ true → g x ≡ h x) → map g (filter f (range_with_len a n)) ≡ map h (filter f (range_with_len a n))
map_chosen f g h a zero e = refl
map_chosen f g h a (suc n) e = by (f a) refl (map_chosen f g h (a + 1) n (λ x low. e x (omega arith)))
  where
    by : (b : Bool) → f a ≡ b → map g (filter f (range_with_len (a + 1) n)) ≡ map h (filter f (range_with_len (a + 1) n))
        → map g (cond b (a ∷ filter f (range_with_len (a + 1) n)) (filter f (range_with_len (a + 1) n))) ≡ map h (cond b (a ∷ filter f (range_with_len (a + 1) n)) (filter f (range_with_len (a + 1) n)))
    by true t r = ap (λ x. x ∷ map g (filter f (range_with_len (a + 1) n))) (e a (omega arith) t) ∙ ap (λ xs. h a ∷ xs) r
    by false t r = r

-- what a list has at the places that pass
pub filter_places : {A : Type 0} (test : A → Bool) (F : ℕ → A) (d : A) (a : ℕ) (xs : List A) → ((j : ℕ) → j < length xs → F (a + j) ≡ get_or xs j d)
    → filter test xs ≡ map F (filter (λ n. test (F n)) (range_with_len a (length xs)))
filter_places test F d a [] h = refl
filter_places test F d a (x ∷ xs) h =
    by (test x) (filter_places test F d (a + 1) xs (λ j low. let e : a + 1 + j ≡ a + suc j = omega arith in ap F e ∙ h (suc j) (omega arith)))
    ∙ ap (λ (b : Bool). map F (cond b (a ∷ rest) rest)) (ap test (sym here))
  where
    rest : List ℕ
    rest = filter (λ n. test (F n)) (range_with_len (a + 1) (length xs))

    here : F a ≡ x
    here = let e : a ≡ a + 0 = omega arith in ap F e ∙ h 0 (omega arith)

    by : (b : Bool) → filter test xs ≡ map F rest → cond b (x ∷ filter test xs) (filter test xs) ≡ map F (cond b (a ∷ rest) rest)
    by true e = ap (λ ys. x ∷ ys) e ∙ ap (λ y. y ∷ map F rest) (sym here)
    by false e = e

-- The k-th number that passes the test: k of them stand before it.
pub record IsChosen (f : ℕ → Bool) (a n k m : ℕ) : Type 0 where
  pub above : a ≤ m
  pub below : m < a + n
  pub passes : f m ≡ true
  pub before : how_many f (range_with_len a (m - a)) ≡ k

pub chosen_at : (f : ℕ → Bool) (a n k : ℕ) → k < length (filter f (range_with_len a n)) → IsChosen f a n k (get_or (filter f (range_with_len a n)) k 0)
chosen_at f a zero k low = absurd (omega arith)
chosen_at f a (suc n) k low = by (f a) refl k low (chosen_at f (a + 1) n)
  where
    later : (b : Bool) (m j : ℕ) → f a ≡ b → IsChosen f (a + 1) n j m → how_many f (range_with_len a (m - a)) ≡ (if b then 1 else 0) + j
    later b m j t c =
        let e : m - a ≡ suc (m - (a + 1)) = omega (arith, c.above) in
        ap (λ (i : ℕ). how_many f (range_with_len a i)) e ∙ ap (λ (t : Bool). (if t then 1 else 0) + how_many f (range_with_len (a + 1) (m - (a + 1)))) t ∙ ap (λ i. (if b then 1 else 0) + i) c.before

    by : (b : Bool) → f a ≡ b → (k : ℕ) → k < length (cond b (a ∷ filter f (range_with_len (a + 1) n)) (filter f (range_with_len (a + 1) n)))
        → ((j : ℕ) → j < length (filter f (range_with_len (a + 1) n)) → IsChosen f (a + 1) n j (get_or (filter f (range_with_len (a + 1) n)) j 0))
        → IsChosen f a (suc n) k (get_or (cond b (a ∷ filter f (range_with_len (a + 1) n)) (filter f (range_with_len (a + 1) n))) k 0)
    by true t zero low rest =
        let e : a - a ≡ 0 = omega arith in
        record { above = omega arith; below = omega arith; passes = t; before = ap (λ (i : ℕ). how_many f (range_with_len a i)) e }
    by true t (suc j) low rest =
        let c = rest j (omega arith) in
        let m : ℕ = get_or (filter f (range_with_len (a + 1) n)) j 0 in
        record { above = omega (arith, c.above); below = omega (arith, c.below); passes = c.passes; before = omega (arith, later true m j t c) }
    by false t k low rest =
        let c = rest k low in
        let m : ℕ = get_or (filter f (range_with_len (a + 1) n)) k 0 in
        record { above = omega (arith, c.above); below = omega (arith, c.below); passes = c.passes; before = omega (arith, later false m k t c) }

-- A number that passes stands behind as many as pass before it.
pub place_at : (f : ℕ → Bool) (a i : ℕ) (n : ℕ) → i < n → f (a + i) ≡ true
    → (how_many f (range_with_len a i) < length (filter f (range_with_len a n))) × (get_or (filter f (range_with_len a n)) (how_many f (range_with_len a i)) 0 ≡ a + i)
place_at f a i zero low t = absurd (omega arith)
place_at f a zero (suc n) low t =
    let e : a + 0 ≡ a = omega arith in
    let h : f a ≡ true = ap f (sym e) ∙ t in
    by (f a) h
  where
    by : (b : Bool) → b ≡ true → (0 < length (cond b (a ∷ filter f (range_with_len (a + 1) n)) (filter f (range_with_len (a + 1) n))))
        × (get_or (cond b (a ∷ filter f (range_with_len (a + 1) n)) (filter f (range_with_len (a + 1) n))) 0 0 ≡ a + 0)
    by true e = (omega arith, omega arith)
    by false e = absurd (true≢false (sym e))
place_at f a (suc i) (suc n) low t =
    let e : a + suc i ≡ a + 1 + i = omega arith in
    by (f a) (place_at f (a + 1) i n (omega arith) (ap f (sym e) ∙ t))
  where
    by : (b : Bool) → (how_many f (range_with_len (a + 1) i) < length (filter f (range_with_len (a + 1) n))) × (get_or (filter f (range_with_len (a + 1) n)) (how_many f (range_with_len (a + 1) i)) 0 ≡ a + 1 + i)
        → ((if b then 1 else 0) + how_many f (range_with_len (a + 1) i) < length (cond b (a ∷ filter f (range_with_len (a + 1) n)) (filter f (range_with_len (a + 1) n))))
        × (get_or (cond b (a ∷ filter f (range_with_len (a + 1) n)) (filter f (range_with_len (a + 1) n))) ((if b then 1 else 0) + how_many f (range_with_len (a + 1) i)) 0 ≡ a + suc i)
    by true (l, g) =
        let j : ℕ = how_many f (range_with_len (a + 1) i) in
        let e : 1 + j ≡ suc j = omega arith in
        (omega (arith, l), ap (λ (k : ℕ). get_or (a ∷ filter f (range_with_len (a + 1) n)) k 0) e ∙ g ∙ omega arith)
    by false (l, g) =
        let j : ℕ = how_many f (range_with_len (a + 1) i) in
        let e : 0 + j ≡ j = omega arith in
        (omega (arith, l), ap (λ (k : ℕ). get_or (filter f (range_with_len (a + 1) n)) k 0) e ∙ g ∙ omega arith)

-- ---- some of a list

pub any_weaker : {A : Type 0} (p q : A → Bool) (xs : List A) → ((x : A) → p x ≡ true → q x ≡ true) → list_any p xs ≡ true → list_any q xs ≡ true
any_weaker p q [] h t = absurd (true≢false (sym t))
any_weaker p q (x ∷ xs) h t = by (p x) refl t (any_weaker p q xs h)
  where
    by : (b : Bool) → p x ≡ b → (b || list_any p xs) ≡ true → (list_any p xs ≡ true → list_any q xs ≡ true) → (q x || list_any q xs) ≡ true
    by true e o r = ap (λ (b : Bool). b || list_any q xs) (h x e)
    by false e o r = or_so (q x) (list_any q xs) (r o)
      where
        or_so : (a b : Bool) → b ≡ true → (a || b) ≡ true
        or_so true b e = refl
        or_so false b e = e

-- some that pass are kept where they pass a second test, which has one answer for all of them
pub any_kept : {A : Type 0} (test keep : A → Bool) (b : Bool) (xs : List A) → AllByRecursion (λ x. test x ≡ true → keep x ≡ b) xs → list_any test (filter keep xs) ≡ (list_any test xs && b)
any_kept test keep b [] h = refl
any_kept test keep b (x ∷ xs) h = by (test x) (keep x) refl h.0 (any_kept test keep b xs h.1)
  where
    by : (t k : Bool) → test x ≡ t → (t ≡ true → k ≡ b) → list_any test (filter keep xs) ≡ (list_any test xs && b)
        → list_any test (cond k (x ∷ filter keep xs) (filter keep xs)) ≡ ((t || list_any test xs) && b)
    by true true e h r = ap (λ (u : Bool). u || list_any test (filter keep xs)) e ∙ h refl
    by true false e h r = r ∙ ap (λ (u : Bool). list_any test xs && u) (sym (h refl)) ∙ none (list_any test xs) ∙ h refl
      where
        none : (a : Bool) → (a && false) ≡ false
        none true = refl
        none false = refl
    by false true e h r = ap (λ (u : Bool). u || list_any test (filter keep xs)) e ∙ r
    by false false e h r = r

pub any_member : {A : Type 0} (test : A → Bool) (xs : List A) (n : ℕ) (d : A) → n < length xs → test (get_or xs n d) ≡ true → list_any test xs ≡ true
any_member test [] n d low t = absurd (omega arith)
any_member test (x ∷ xs) zero d low t = ap (λ (b : Bool). b || list_any test xs) t
any_member test (x ∷ xs) (suc n) d low t = by (test x) (any_member test xs n d (omega arith) t)
  where
    by : (a : Bool) → list_any test xs ≡ true → (a || list_any test xs) ≡ true
    by true e = refl
    by false e = e
