-- Lists over ranges that are one longer.
use Rattle.std.specs.Prelude.{if◌then◌else◌}
use Rattle.std.specs.List.{filter, range_with_len}
use Rattle.std.proofs.Common.{◌≡◌, ℕ, ◌+◌, Bool, true, false, List, [], ◌∷◌, ◌++◌, map, append-nil, append_assoc, refl, sym, ap, ◌∙◌}
use Rattle.std.proofs.lemmas.List.{map-append}
use Rattle.std.proofs.lemmas.List.Elements.{filter-append}
use Rattle.shape_parts.proofs.Links.{range_more}
use Rattle.count_sum.specs.Mirror.Lists.{joined}

pub joined_both : {A : Type 0} (f : A → List ℕ) (xs ys : List A) → joined f (xs ++ ys) ≡ joined f xs ++ joined f ys
joined_both f [] ys = refl
joined_both f (x ∷ xs) ys = ap (λ zs. f x ++ zs) (joined_both f xs ys) ∙ sym (append_assoc (f x) (joined f xs) (joined f ys))

pub joined_more : (f : ℕ → List ℕ) (n : ℕ) → joined f (range_with_len 0 (n + 1)) ≡ joined f (range_with_len 0 n) ++ f n
joined_more f n = ap (joined f) (range_more n) ∙ joined_both f (range_with_len 0 n) (n ∷ []) ∙ ap (λ ys. joined f (range_with_len 0 n) ++ ys) (append-nil (f n))

pub table_more : {A B : Type 0} (g : A → B) (f : ℕ → B) (xs : List A) (x : A) (i : ℕ) → map g xs ≡ map f (range_with_len 0 i) → g x ≡ f i
    → map g (xs ++ x ∷ []) ≡ map f (range_with_len 0 (i + 1))
table_more g f xs x i h e = map-append g xs (x ∷ []) ∙ ap (λ ys. ys ++ g x ∷ []) h ∙ ap (λ y. map f (range_with_len 0 i) ++ y ∷ []) e
    ∙ sym (ap (map f) (range_more i) ∙ map-append f (range_with_len 0 i) (i ∷ []))

chosen : (test : ℕ → Bool) (i : ℕ) (b : Bool) → test i ≡ b → filter test (range_with_len 0 (i + 1)) ≡ filter test (range_with_len 0 i) ++ (if b then i ∷ [] else [])
chosen test i b e = ap (filter test) (range_more i) ∙ filter-append test (range_with_len 0 i) (i ∷ [])
    ∙ ap (λ (c : Bool). filter test (range_with_len 0 i) ++ (if c then i ∷ [] else [])) e

pub chosen_more : {A B : Type 0} (g : A → B) (f : ℕ → B) (test : ℕ → Bool) (xs : List A) (x : A) (i : ℕ) → map g xs ≡ map f (filter test (range_with_len 0 i)) → g x ≡ f i → test i ≡ true
    → map g (xs ++ x ∷ []) ≡ map f (filter test (range_with_len 0 (i + 1)))
chosen_more g f test xs x i h e t = map-append g xs (x ∷ []) ∙ ap (λ ys. ys ++ g x ∷ []) h ∙ ap (λ y. map f (filter test (range_with_len 0 i)) ++ y ∷ []) e
    ∙ sym (ap (map f) (chosen test i true t) ∙ map-append f (filter test (range_with_len 0 i)) (i ∷ []))

pub chosen_same : {A B : Type 0} (g : A → B) (f : ℕ → B) (test : ℕ → Bool) (xs : List A) (i : ℕ) → map g xs ≡ map f (filter test (range_with_len 0 i)) → test i ≡ false
    → map g xs ≡ map f (filter test (range_with_len 0 (i + 1)))
chosen_same g f test xs i h t = h ∙ sym (ap (map f) (chosen test i false t ∙ append-nil (filter test (range_with_len 0 i))))

pub row_more : {B : Type 0} (f : ℕ → B) (xs : List B) (x : B) (i : ℕ) → xs ≡ map f (range_with_len 0 i) → x ≡ f i → xs ++ x ∷ [] ≡ map f (range_with_len 0 (i + 1))
row_more f xs x i h e = ap (λ ys. ys ++ x ∷ []) h ∙ ap (λ y. map f (range_with_len 0 i) ++ y ∷ []) e ∙ sym (ap (map f) (range_more i) ∙ map-append f (range_with_len 0 i) (i ∷ []))

pub appended : {A B : Type 0} (f : A → B) (xs ys zs : List A) {vs ws : List B} → zs ≡ xs ++ ys → map f xs ≡ vs → map f ys ≡ ws → map f zs ≡ vs ++ ws
appended f xs ys zs {vs = vs} e x y = ap (map f) e ∙ map-append f xs ys ∙ ap (λ us. us ++ map f ys) x ∙ ap (λ us. vs ++ us) y
