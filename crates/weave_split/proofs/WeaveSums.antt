-- Sums over lists of symbols, and how often symbols come in a trace.
use Rattle.std.proofs.Common.{◌≡◌, inl, inr, ℕ, suc, ◌+◌, ◌<◌, ◌≤◌, Bool, true, false, cond, List, [], ◌∷◌, filter, refl, sym, ap, subst, ◌∙◌, arith, if◌then◌else◌, count_by}
use Rattle.std.proofs.lemmas.Bool.{cases_Bool, cases_eq, cases_lt}
use Rattle.std.proofs.lemmas.List.Recursion.{is_count_by}
use Rattle.cmd_tree.specs.Lists.{is_in}
use Rattle.place_graph.specs.Tale.{one_if, times}
use Rattle.place_graph.proofs.Sums.{one_same, one_other}
use Rattle.net_laws.proofs.Among.{Among, Distinct}
use Rattle.plain_split.proofs.OneWaitWeb.{sum_of}
use Rattle.plain_split.proofs.OneWaitDrawn.{among_in, in_among}

pub sum_low : {A : Type 0} (f h : A → ℕ) (xs : List A) → ((x : A) → Among x xs → f x ≤ h x) → sum_of f xs ≤ sum_of h xs
sum_low f h [] low = omega arith
sum_low f h (x ∷ xs) low = omega (arith, low x (inl refl), sum_low f h xs (λ y a. low y (inr a)))

pub sum_even : {A : Type 0} (f h : A → ℕ) (xs : List A) → ((x : A) → Among x xs → f x ≡ h x) → sum_of f xs ≡ sum_of h xs
sum_even f h [] same = refl
sum_even f h (x ∷ xs) same = omega (arith, same x (inl refl), sum_even f h xs (λ y a. same y (inr a)))

-- where f is nowhere more than h, the sums differ at least as much as each two terms
pub sum_gap : {A : Type 0} (f h : A → ℕ) (xs : List A) → ((x : A) → Among x xs → f x ≤ h x) → (x : A) → Among x xs → sum_of f xs + h x ≤ sum_of h xs + f x
sum_gap f h [] low x a = absurd a
sum_gap f h (y ∷ xs) low x (inl e) = omega (arith, ap f e, ap h e, sum_low f h xs (λ z b. low z (inr b)))
sum_gap f h (y ∷ xs) low x (inr a) = omega (arith, low y (inl refl), sum_gap f h xs (λ z b. low z (inr b)) x a)

pub sum_less : {A : Type 0} (f h : A → ℕ) (xs : List A) → sum_of f xs < sum_of h xs → (x : A) × Among x xs × (f x < h x)
sum_less f h [] less = absurd (omega (arith, less))
sum_less f h (y ∷ xs) less = elim (cases_lt (f y) (h y)) [
  | inl here ↦ (y, inl refl, here)
  | inr low ↦ let (x, a, more) = sum_less f h xs (omega (arith, less, low)) in (x, inr a, more)
]

-- one term alone may have grown, by one
pub sum_late : (f h : ℕ → ℕ) (xs : List ℕ) → Distinct xs → (a : ℕ) → h a ≤ suc (f a) → ((x : ℕ) → (x ≡ a → ⊥) → h x ≤ f x) → sum_of h xs ≤ suc (sum_of f xs)
sum_late f h [] once a one others = omega arith
sum_late f h (x ∷ xs) once a one others = elim (cases_eq x a) [
  | inl e ↦
      let rest : sum_of h xs ≤ sum_of f xs = sum_low h f xs (λ y b. others y (λ z. once.0 (subst (λ v. Among v xs) (z ∙ sym e) b))) in
      omega (arith, ap f e, ap h e, one, rest)
  | inr apart ↦ omega (arith, others x apart, sum_late f h xs once.1 a one others)
]

sum_none : (f : ℕ → ℕ) (xs : List ℕ) → ((x : ℕ) → Among x xs → f x ≡ 0) → sum_of f xs ≡ 0
sum_none f [] none = refl
sum_none f (x ∷ xs) none = omega (arith, none x (inl refl), sum_none f xs (λ y a. none y (inr a)))

sum_both : (f h : ℕ → ℕ) (xs : List ℕ) → sum_of (λ x. f x + h x) xs ≡ sum_of f xs + sum_of h xs
sum_both f h [] = refl
sum_both f h (x ∷ xs) = omega (arith, sum_both f h xs)

-- ---- symbols of a list in a trace

one_in : (b : ℕ) (xs : List ℕ) → Distinct xs → Among b xs → sum_of (λ s. one_if s b) xs ≡ 1
one_in b [] once a = absurd a
one_in b (x ∷ xs) once (inl e) =
    let rest : sum_of (λ s. one_if s b) xs ≡ 0 = sum_none (λ s. one_if s b) xs (λ s a. one_other s b (λ z. once.0 (subst (λ v. Among v xs) (z ∙ e) a))) in
    omega (arith, one_same x b (sym e), rest)
one_in b (x ∷ xs) once (inr a) =
    omega (arith, one_other x b (λ z. once.0 (subst (λ v. Among v xs) (sym z) a)), one_in b xs once.1 a)

abbrev bit : Bool → ℕ
bit b = if b then 1 else 0

one_of : (b : ℕ) (xs : List ℕ) → Distinct xs → sum_of (λ s. one_if s b) xs ≡ bit (is_in b xs)
one_of b xs once = elim (cases_Bool (is_in b xs)) [
  | inl e ↦ one_in b xs once (in_among b xs e) ∙ sym (ap bit e)
  | inr e ↦
      let none : (s : ℕ) → Among s xs → s ≡ b → ⊥ = λ s a z. let x : true ≡ false = sym (among_in b xs (subst (λ v. Among v xs) z a)) ∙ e in absurd (cc) in
      sum_none (λ s. one_if s b) xs (λ s a. one_other s b (none s a)) ∙ sym (ap bit e)
]

abbrev held : List ℕ → List ℕ → ℕ
held xs [] = 0
held xs (b ∷ t) = if is_in b xs then 1 + held xs t else held xs t

held_more : (b : Bool) (n : ℕ) → (if b then 1 + n else n) ≡ bit b + n
held_more true n = refl
held_more false n = omega arith

held_sum : (xs : List ℕ) → Distinct xs → (t : List ℕ) → held xs t ≡ sum_of (λ s. times s t) xs
held_sum xs once [] = sym (sum_none (λ s. 0) xs (λ s a. refl))
held_sum xs once (b ∷ t) = omega (
  arith,
  held_more (is_in b xs) (held xs t),
  held_sum xs once t,
  one_of b xs once,
  sum_both (λ s. one_if s b) (λ s. times s t) xs,
)

-- symbols of a list come as often as all of them together
pub times_sum : (xs : List ℕ) → Distinct xs → (t : List ℕ) → count_by (λ a. is_in a xs) t ≡ sum_of (λ s. times s t) xs
times_sum xs once t = sym (is_count_by (held xs) (λ a. is_in a xs) refl (λ b u. refl) t) ∙ held_sum xs once t

-- what is left of a trace has the symbols of the list as often
pub times_kept : (xs : List ℕ) (s : ℕ) → Among s xs → (t : List ℕ) → times s (filter (λ a. is_in a xs) t) ≡ times s t
times_kept xs s a [] = refl
times_kept xs s a (b ∷ t) = by (is_in b xs) refl (times_kept xs s a t)
  where
    by : (x : Bool) → is_in b xs ≡ x → times s (filter (λ a. is_in a xs) t) ≡ times s t
        → times s (cond x (b ∷ filter (λ a. is_in a xs) t) (filter (λ a. is_in a xs) t)) ≡ one_if s b + times s t
    by true e rest = omega (arith, rest)
    by false e rest =
        let apart : s ≡ b → ⊥ = λ z. let x : true ≡ false = sym (among_in b xs (subst (λ v. Among v xs) z a)) ∙ e in absurd (cc) in
        omega (arith, rest, one_other s b apart)

pub sum_zero : (xs : List ℕ) → sum_of (λ (x : ℕ). 0) xs ≡ 0
sum_zero xs = sum_none (λ x. 0) xs (λ x a. refl)
