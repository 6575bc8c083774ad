-- Clients one after another.
use Rattle.std.proofs.Common.{◌≡◌, ◌⊎◌, inl, inr, ℕ, zero, suc, ◌+◌, ◌<◌, ◌≤◌, List, [], ◌∷◌, ◌++◌, map, flat_map, sym, ap, ◌∙◌, arith, add-one}
use Rattle.std.specs.List.{range_with_len, AllByRecursion}
use Rattle.std.proofs.lemmas.List.{map-append}
use Rattle.std.proofs.lemmas.Grind.{flat_map-append}
use Rattle.di_grammar.specs.Lists.{Each, Within}

range_more : (a n : ℕ) → range_with_len a (suc n) ≡ range_with_len a n ++ (a + n) ∷ []
range_more a zero = ap (λ x. x ∷ []) (omega arith)
range_more a (suc n) = ap (λ xs. a ∷ xs) (range_more (a + 1) n) ∙ ap (λ x. a ∷ (range_with_len (a + 1) n ++ x ∷ [])) (omega arith)

-- the numbers from 1 on, and one more
next : (n : ℕ) → range_with_len 1 (n + 1) ≡ range_with_len 1 n ++ (n + 1) ∷ []
next n = ap (range_with_len 1) (add-one n) ∙ range_more 1 n ∙ ap (λ x. range_with_len 1 n ++ x ∷ []) (omega arith)

pub map_next : {A : Type 0} (f : ℕ → A) (n : ℕ) → map f (range_with_len 1 (n + 1)) ≡ map f (range_with_len 1 n) ++ f (n + 1) ∷ []
map_next f n = ap (map f) (next n) ∙ map-append f (range_with_len 1 n) ((n + 1) ∷ [])

pub flat_next : {A : Type 0} (f : ℕ → List A) (n : ℕ) → flat_map f (range_with_len 1 (n + 1)) ≡ flat_map f (range_with_len 1 n) ++ (f (n + 1) ++ [])
flat_next f n = ap (flat_map f) (next n) ∙ flat_map-append f (range_with_len 1 n) ((n + 1) ∷ [])

-- what holds of each number of a range
pub each_ranged : {A : Type 0} (P : A → Type 0) (f : ℕ → A) (j k : ℕ) → ((i : ℕ) → j ≤ i → i < j + k → P (f i)) → Each P (map f (range_with_len j k))
each_ranged P f j zero h = tt
each_ranged P f j (suc k) h = (h j (omega arith) (omega arith), each_ranged P f (j + 1) k (λ i l m. h i (omega arith) (omega arith)))

pub all_ranged : {A : Type 0} (P : A → Type 0) (f : ℕ → A) (j k : ℕ) → ((i : ℕ) → j ≤ i → i < j + k → P (f i)) → AllByRecursion P (map f (range_with_len j k))
all_ranged P f j zero h = tt
all_ranged P f j (suc k) h = (h j (omega arith) (omega arith), all_ranged P f (j + 1) k (λ i l m. h i (omega arith) (omega arith)))

step_or_same : (j i : ℕ) → j ≤ i → (j ≡ i) ⊎ (j + 1 ≤ i)
step_or_same j i h = grind arith

within_first : {A : Type 0} (f : ℕ → A) (j i : ℕ) (rest : List A) → j ≡ i → Within (f j ∷ rest) (f i)
within_first f j i rest e = record { before = []; after = rest; are = ap (λ x. f x ∷ rest) e }

within_rest : {A : Type 0} (x y : A) (rest : List A) → Within rest y → Within (x ∷ rest) y
within_rest x y rest w = record { before = x ∷ w.before; after = w.after; are = ap (λ xs. x ∷ xs) w.are }

pub within_ranged : {A : Type 0} (f : ℕ → A) (j k i : ℕ) → j ≤ i → i < j + k → Within (map f (range_with_len j k)) (f i)
within_ranged f j zero i l m = absurd (omega arith)
within_ranged f j (suc k) i l m = elim (step_or_same j i l) [
  | inl e ↦ within_first f j i (map f (range_with_len (j + 1) k)) e
  | inr more ↦ within_rest (f j) (f i) (map f (range_with_len (j + 1) k)) (within_ranged f (j + 1) k i more (omega arith))
]

pub all_both : {A : Type 0} (P : A → Type 0) (xs ys : List A) → AllByRecursion P xs → AllByRecursion P ys → AllByRecursion P (xs ++ ys)
all_both P [] ys h k = k
all_both P (x ∷ xs) ys h k = (h.0, all_both P xs ys h.1 k)

-- a loop that pushes one more
pub push_next : {A : Type 0} (f : ℕ → A) (n : ℕ) (old new : List A) (x : A) → old ≡ map f (range_with_len 1 n) → x ≡ f (n + 1) → new ≡ old ++ x ∷ []
    → new ≡ map f (range_with_len 1 (n + 1))
push_next f n old new x e g h = h ∙ ap (λ xs. xs ++ x ∷ []) e ∙ ap (λ y. map f (range_with_len 1 n) ++ y ∷ []) g ∙ sym (map_next f n)
