-- Members of lists, and lists in which nothing stands twice.
use Rattle.std.proofs.Common.{◌≡◌, ℕ, zero, suc, ◌<◌, List, [], ◌∷◌, map, length, get_or, ◌⊎◌, inl, inr, refl, sym, ap, subst, arith}
use Rattle.std.specs.List.{AllByRecursion}

abbrev pub Among : {A : Type 0} → A → List A → Type 0
Among a [] = ⊥
Among a (x ∷ xs) = (a ≡ x) ⊎ Among a xs

abbrev pub Distinct : {A : Type 0} → List A → Type 0
Distinct [] = Unit {0}
Distinct (x ∷ xs) = (Among x xs → ⊥) × Distinct xs

pub among_at : {A : Type 0} (b a : A) (xs : List A) → Among a xs → (i : ℕ) × (i < length xs) × (get_or xs i b ≡ a)
among_at b a [] h = absurd h
among_at b a (x ∷ xs) (inl e) = (0, omega arith, sym e)
among_at b a (x ∷ xs) (inr h) = let (i, l, e) = among_at b a xs h in (suc i, omega arith, e)

pub at_among : {A : Type 0} (b : A) (xs : List A) (i : ℕ) → i < length xs → Among (get_or xs i b) xs
at_among b [] i h = absurd (omega arith)
at_among b (x ∷ xs) zero h = inl refl
at_among b (x ∷ xs) (suc i) h = inr (at_among b xs i (omega arith))

pub distinct_at : {A : Type 0} (b : A) (xs : List A) → Distinct xs → (i j : ℕ) → i < length xs → j < length xs → get_or xs i b ≡ get_or xs j b → i ≡ j
distinct_at b [] h i j k l e = absurd (omega arith)
distinct_at b (x ∷ xs) h zero zero k l e = refl
distinct_at b (x ∷ xs) h zero (suc j) k l e =
    let low : j < length xs = omega arith in
    absurd (h.0 (subst (λ y. Among y xs) (sym e) (at_among b xs j low)))
distinct_at b (x ∷ xs) h (suc i) zero k l e =
    let low : i < length xs = omega arith in
    absurd (h.0 (subst (λ y. Among y xs) e (at_among b xs i low)))
distinct_at b (x ∷ xs) h (suc i) (suc j) k l e = ap suc (distinct_at b xs h.1 i j (omega arith) (omega arith) e)

pub all_among : {A : Type 0} (P : A → Type 0) (xs : List A) → AllByRecursion P xs → (a : A) → Among a xs → P a
all_among P [] all a h = absurd h
all_among P (x ∷ xs) all a (inl e) = subst P (sym e) all.0
all_among P (x ∷ xs) all a (inr h) = all_among P xs all.1 a h

pub all_at : {A : Type 0} (P : A → Type 0) (b : A) (xs : List A) → AllByRecursion P xs → (i : ℕ) → i < length xs → P (get_or xs i b)
all_at P b xs all i h = all_among P xs all (get_or xs i b) (at_among b xs i h)

pub all_map : {A B : Type 0} (P : B → Type 0) (f : A → B) (xs : List A) → AllByRecursion (λ x. P (f x)) xs → AllByRecursion P (map f xs)
all_map P f [] all = tt
all_map P f (x ∷ xs) all = (all.0, all_map P f xs all.1)

-- a list of places, read from a list in which nothing stands twice
pub places_same : {A : Type 0} (b : A) (xs : List A) → Distinct xs → (t u : List ℕ) → AllByRecursion (λ p. p < length xs) t → AllByRecursion (λ p. p < length xs) u
    → map (λ p. get_or xs p b) t ≡ map (λ p. get_or xs p b) u → t ≡ u
places_same b xs h [] [] m n e = refl
places_same b xs h [] (q ∷ u) m n e = absurd (cc)
places_same b xs h (p ∷ t) [] m n e = absurd (cc)
places_same b xs h (p ∷ t) (q ∷ u) m n e =
    let x : get_or xs p b ≡ get_or xs q b = cc in
    let y : map (λ p. get_or xs p b) t ≡ map (λ p. get_or xs p b) u = cc in
    let z : p ≡ q = distinct_at b xs h p q m.0 n.0 x in
    let i : t ≡ u = places_same b xs h t u m.1 n.1 y in
    cc
