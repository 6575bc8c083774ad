-- What holds of each element of a list, and of each two: of the parts of a list.
use Rattle.std.proofs.Common.{List, [], ◌∷◌, ◌++◌, refl, ap, subst}
use Rattle.std.specs.List.{AllByRecursion}
use Rattle.di_grammar.specs.Lists.{Each, EachTwo, Within}

pub each_left : {A : Type 0} (P : A → Type 0) (xs ys : List A) → Each P (xs ++ ys) → Each P xs
each_left P [] ys h = tt
each_left P (x ∷ xs) ys h = (h.0, each_left P xs ys h.1)

pub each_right : {A : Type 0} (P : A → Type 0) (xs ys : List A) → Each P (xs ++ ys) → Each P ys
each_right P [] ys h = h
each_right P (x ∷ xs) ys h = each_right P xs ys h.1

pub each_both : {A : Type 0} (P : A → Type 0) (xs ys : List A) → Each P xs → Each P ys → Each P (xs ++ ys)
each_both P [] ys h k = k
each_both P (x ∷ xs) ys h k = (h.0, each_both P xs ys h.1 k)

pub each_so : {A : Type 0} (P Q : A → Type 0) (xs : List A) → ((x : A) → P x → Q x) → Each P xs → Each Q xs
each_so P Q [] f h = tt
each_so P Q (x ∷ xs) f h = (f x h.0, each_so P Q xs f h.1)

pub each_with : {A : Type 0} (P Q R : A → Type 0) (xs : List A) → ((x : A) → P x → Q x → R x)
    → Each P xs → Each Q xs → Each R xs
each_with P Q R [] f h k = tt
each_with P Q R (x ∷ xs) f h k = (f x h.0 k.0, each_with P Q R xs f h.1 k.1)

pub each_at : {A : Type 0} (P : A → Type 0) (xs : List A) (x : A) → Each P xs → Within xs x → P x
each_at P xs x h w = (each_right P w.before (x ∷ w.after) (subst (Each P) w.are h)).0

pub each_of : {A : Type 0} (P : A → Type 0) (xs : List A) → ((x : A) → Within xs x → P x) → Each P xs
each_of P [] f = tt
each_of {A} P (x ∷ xs) f = (
  f x (record { before = []; after = xs; are = refl }),
  each_of P xs (λ y w. f y (record {
    before = x ∷ w.before;
    after = w.after;
    are = ap
        (λ (ys : List A). x ∷ ys) w.are;
  })),
)

pub all_each : {A : Type 0} (P : A → Type 0) (xs : List A) → AllByRecursion P xs → Each P xs
all_each P [] h = tt
all_each P (x ∷ xs) h = (h.0, all_each P xs h.1)

pub each_all : {A : Type 0} (P : A → Type 0) (xs : List A) → Each P xs → AllByRecursion P xs
each_all P [] h = tt
each_all P (x ∷ xs) h = (h.0, each_all P xs h.1)

pub two_left : {A : Type 0} (R : A → A → Type 0) (xs ys : List A) → EachTwo R (xs ++ ys) → EachTwo R xs
two_left R [] ys h = tt
two_left R (x ∷ xs) ys h = (each_left (R x) xs ys h.0, two_left R xs ys h.1)

pub two_right : {A : Type 0} (R : A → A → Type 0) (xs ys : List A) → EachTwo R (xs ++ ys) → EachTwo R ys
two_right R [] ys h = h
two_right R (x ∷ xs) ys h = two_right R xs ys h.1

-- the one in the first list, the other in the second
pub two_across : {A : Type 0} (R : A → A → Type 0) (xs ys : List A) → EachTwo R (xs ++ ys)
    → Each (λ x. Each (R x) ys) xs
two_across R [] ys h = tt
two_across R (x ∷ xs) ys h = (each_right (R x) xs ys h.0, two_across R xs ys h.1)
