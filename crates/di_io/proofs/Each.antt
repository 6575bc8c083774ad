-- The texts of the items of a list, one after another.
use Rattle.std.proofs.Common.{◌≡◌, ℕ, ◌+◌, ◌<◌, ◌≤◌, suc, List, [], ◌∷◌, ◌++◌, length, get_or, drop, ap, ◌∙◌, sym, add-one, drop-cons}
use Rattle.std.specs.Prelude.{flat_map}
use Rattle.std.proofs.lemmas.List.{at_drop_all}

-- the rest of a list begins with its first item
pub rest_item : {A : Type 0} (xs : List A) (i : ℕ) (x : A) → i < length xs → x ≡ get_or xs i x
    → drop i xs ≡ x ∷ drop (i + 1) xs
rest_item {A = A} xs i x h is =
    rw add-one (drop-cons xs i x h ∙ ap (λ (y : A). y ∷ drop (suc i) xs) (sym is))

pub each_item : {A : Type 0} (f : A → List ℕ) (xs : List A) (i : ℕ) (x : A) → i < length xs
    → x ≡ get_or xs i x → flat_map f (drop i xs) ≡ f x ++ flat_map f (drop (i + 1) xs)
each_item f xs i x h is = ap (flat_map f) (rest_item xs i x h is)

pub each_next : {A : Type 0} (f : A → List ℕ) (xs : List A) (i : ℕ) (d : A) → i < length xs
    → flat_map f (drop i xs) ≡ f (get_or xs i d) ++ flat_map f (drop (i + 1) xs)
each_next f xs i d h = rw add-one (ap (flat_map f) (drop-cons xs i d h))

-- of numbers
pub each_number : (f : ℕ → List ℕ) (xs : List ℕ) (i : ℕ) → i < length xs
    → flat_map f (drop i xs) ≡ f (get_or xs i 0) ++ flat_map f (drop (i + 1) xs)
each_number f xs i h = each_next f xs i 0 h

-- nothing is left
pub each_none : {A : Type 0} (f : A → List ℕ) (xs : List A) (i : ℕ) → length xs ≤ i
    → flat_map f (drop i xs) ≡ []
each_none f xs i h = at_drop_all (flat_map f) xs i h
