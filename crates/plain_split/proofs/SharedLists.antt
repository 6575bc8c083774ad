-- Lists that are filtered, and lists one after the other.
use Rattle.std.proofs.Common.{◌≡◌, ◌⊎◌, inl, inr, ⊎_elim, Bool, true, false, true≢false, cond, filter, List, [], ◌∷◌, map, refl, sym, ap, ◌∙◌, subst}
use Rattle.std.specs.List.{AllByRecursion}
use Rattle.net_laws.proofs.Among.{Among, Distinct}
use Rattle.net_laws.proofs.Rows.{among_left, among_right, among_either, distinct_both}
use Rattle.plain_split.specs.SharedPaths.{joined}

pub all_by_among : {A : Type 0} (P : A → Type 0) (xs : List A) → ((x : A) → Among x xs → P x) → AllByRecursion P xs
all_by_among P [] h = tt
all_by_among P (x ∷ xs) h = (h x (inl refl), all_by_among P xs (λ y a. h y (inr a)))

pub among_filter : {A : Type 0} (p : A → Bool) (xs : List A) (x : A) → Among x xs → p x ≡ true → Among x (filter p xs)
among_filter p [] x a h = absurd a
among_filter p (y ∷ xs) x a h = by (p y) refl a (λ b. among_filter p xs x b h)
  where
    by : (b : Bool) → p y ≡ b → (x ≡ y) ⊎ Among x xs → (Among x xs → Among x (filter p xs)) → Among x (cond b (y ∷ filter p xs) (filter p xs))
    by true e (inl i) f = inl i
    by true e (inr i) f = inr (f i)
    by false e (inl i) f = absurd (true≢false (sym h ∙ ap p i ∙ e))
    by false e (inr i) f = f i

pub filter_among : {A : Type 0} (p : A → Bool) (xs : List A) (x : A) → Among x (filter p xs) → Among x xs × (p x ≡ true)
filter_among p [] x a = absurd a
filter_among p (y ∷ xs) x a = by (p y) refl a (λ b. filter_among p xs x b)
  where
    by : (b : Bool) → p y ≡ b → Among x (cond b (y ∷ filter p xs) (filter p xs)) → (Among x (filter p xs) → Among x xs × (p x ≡ true)) → ((x ≡ y) ⊎ Among x xs) × (p x ≡ true)
    by true e (inl i) f = (inl i, ap p i ∙ e)
    by true e (inr i) f = (inr (f i).0, (f i).1)
    by false e i f = (inr (f i).0, (f i).1)

pub distinct_filter : {A : Type 0} (p : A → Bool) (xs : List A) → Distinct xs → Distinct (filter p xs)
distinct_filter p [] d = tt
distinct_filter p (y ∷ xs) d = by (p y) (distinct_filter p xs d.1)
  where
    by : (b : Bool) → Distinct (filter p xs) → Distinct (cond b (y ∷ filter p xs) (filter p xs))
    by true f = ((λ a. d.0 (filter_among p xs y a).0), f)
    by false f = f

pub distinct_map : {A B : Type 0} (f : A → B) → ((x y : A) → f x ≡ f y → x ≡ y) → (xs : List A) → Distinct xs → Distinct (map f xs)
distinct_map f one [] d = tt
distinct_map {A = A} f one (x ∷ xs) d = ((λ a. d.0 (back xs a)), distinct_map f one xs d.1)
  where
    back : (ys : List A) → Among (f x) (map f ys) → Among x ys
    back [] a = absurd a
    back (y ∷ ys) (inl e) = inl (one x y e)
    back (y ∷ ys) (inr a) = inr (back ys a)

pub among_joined : {A B : Type 0} (f : A → List B) (xs : List A) (x : A) (y : B) → Among x xs → Among y (f x) → Among y (joined f xs)
among_joined f [] x y a b = absurd a
among_joined f (z ∷ xs) x y (inl e) b = among_left y (f z) (joined f xs) (subst (λ w. Among y (f w)) e b)
among_joined f (z ∷ xs) x y (inr a) b = among_right y (f z) (joined f xs) (among_joined f xs x y a b)

pub joined_among : {A B : Type 0} (f : A → List B) (xs : List A) (y : B) → Among y (joined f xs) → (x : A) × Among x xs × Among y (f x)
joined_among f [] y a = absurd a
joined_among f (z ∷ xs) y a = ⊎_elim
    (λ i. (z, inl refl, i))
    (λ i. let (x, j, k) = joined_among f xs y i in (x, inr j, k))
    (among_either y (f z) (joined f xs) a)

-- where each element of a list f x tells x
pub distinct_joined : {A B : Type 0} (f : A → List B) (xs : List A) → Distinct xs → ((x : A) → Among x xs → Distinct (f x))
    → ((x z : A) (y : B) → Among x xs → Among z xs → Among y (f x) → Among y (f z) → x ≡ z) → Distinct (joined f xs)
distinct_joined f [] d h one = tt
distinct_joined f (z ∷ xs) d h one =
    distinct_both (f z) (joined f xs) (h z (inl refl)) (distinct_joined f xs d.1 (λ x a. h x (inr a)) (λ x w y a b. one x w y (inr a) (inr b)))
    (λ y a b. let (x, i, j) = joined_among f xs y b in d.0 (subst (λ w. Among w xs) (sym (one z x y (inl refl) (inr i) a j)) i))
