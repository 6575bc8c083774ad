-- Sums over legs.
use Rattle.std.proofs.Common.{◌≡◌, ◌⊎◌, inl, inr, ⊎_elim, ℕ, ◌+◌, ◌<◌, ◌≤◌, Bool, true, false, true≢false, List, [], ◌∷◌, refl, sym, ap, ◌∙◌, arith, if◌then◌else◌, eq-eqb, ne_eqb}
use Rattle.std.proofs.lemmas.Bool.{cases_Bool, cases_lt, cases_eq}
use Rattle.place_graph.specs.declared.leg.Leg.{Leg}
use Rattle.place_graph.specs.Points.{Among}
use Rattle.place_graph.specs.Tale.{one_if}
use Rattle.place_graph.specs.Chart.{Increase, sum_where}
use Rattle.place_graph.proofs.Sums.{sum_none, later_places}

pub one_at : (x y : ℕ) → ((x ≡ y) × (one_if x y ≡ 1)) ⊎ ((x ≡ y → ⊥) × (one_if x y ≡ 0))
one_at x y = elim (cases_eq x y) [
  | inl e ↦ inl (e, ap (λ b. if b then 1 else 0) (eq-eqb x y e))
  | inr e ↦ inr (e, ap (λ b. if b then 1 else 0) (ne_eqb x y e))
]

abbrev pub when : Bool → ℕ → ℕ
when b n = if b then n else 0

when_le : (b : Bool) (m n : ℕ) → (b ≡ true → m ≤ n) → when b m ≤ when b n
when_le true m n h = h refl
when_le false m n h = omega arith

when_gap : (b : Bool) (m n : ℕ) → b ≡ true → when b m + n ≡ when b n + m
when_gap true m n h = omega arith
when_gap false m n h = absurd (true≢false (sym h))

when_some : (b : Bool) (m n : ℕ) → when b m < when b n → (b ≡ true) × (m < n)
when_some true m n h = (refl, h)
when_some false m n h = absurd (omega arith)

when_small : (b : Bool) (n : ℕ) → n ≤ 1 → when b n ≤ 1
when_small true n h = h
when_small false n h = omega arith

pub sum_le : (L : List Leg) (test : Leg → Bool) (f g : Leg → ℕ) → ((l : Leg) → Among L l → test l ≡ true → f l ≤ g l) → sum_where L test f ≤ sum_where L test g
sum_le [] test f g h = omega arith
sum_le (l ∷ L) test f g h = omega (arith, when_le (test l) (f l) (g l) (h l (inl refl)), sum_le L test f g (λ m a. h m (inr a)))

-- where f is nowhere more than g, the sums differ at least as much as each two terms
pub sum_gap : (L : List Leg) (test : Leg → Bool) (f g : Leg → ℕ) → ((l : Leg) → Among L l → test l ≡ true → f l ≤ g l)
    → (m : Leg) → Among L m → test m ≡ true → sum_where L test f + g m ≤ sum_where L test g + f m
sum_gap [] test f g h m a t = absurd a
sum_gap (l ∷ L) test f g h m a t = ⊎_elim
    (λ e.
    let rest : sum_where L test f ≤ sum_where L test g = sum_le L test f g (λ x b. h x (inr b)) in
    let here : when (test m) (f m) + g m ≡ when (test m) (g m) + f m = when_gap (test m) (f m) (g m) t in
    let one : when (test l) (f l) ≡ when (test m) (f m) = ap (λ (x : Leg). when (test x) (f x)) e in
    let two : when (test l) (g l) ≡ when (test m) (g m) = ap (λ (x : Leg). when (test x) (g x)) e in
    omega (arith, rest, here, one, two))
    (λ b. omega (arith, when_le (test l) (f l) (g l) (h l (inl refl)), sum_gap L test f g (λ x c. h x (inr c)) m b t))
    a

pub sum_some : (L : List Leg) (test : Leg → Bool) (f g : Leg → ℕ) → sum_where L test f < sum_where L test g
    → (l : Leg) × Among L l × (test l ≡ true) × (f l < g l)
sum_some [] test f g h = absurd (omega arith)
sum_some (l ∷ L) test f g h = ⊎_elim
    (λ less. let (t, x) = when_some (test l) (f l) (g l) less in (l, inl refl, t, x))
    (λ more. let (m, a, t, x) = sum_some L test f g (omega (arith, h, more)) in (m, inr a, t, x))
    (cases_lt (when (test l) (f l)) (when (test l) (g l)))

pub sum_tests : (L : List Leg) (s t : Leg → Bool) (f g : Leg → ℕ) → ((l : Leg) → Among L l → s l ≡ t l) → ((l : Leg) → Among L l → f l ≡ g l)
    → sum_where L s f ≡ sum_where L t g
sum_tests [] s t f g h k = refl
sum_tests (l ∷ L) s t f g h k =
    let here : when (s l) (f l) ≡ when (t l) (g l) = ap (λ b. when b (f l)) (h l (inl refl)) ∙ ap (when (t l)) (k l (inl refl)) in
    omega (arith, here, sum_tests L s t f g (λ m a. h m (inr a)) (λ m a. k m (inr a)))

sum_false : (L : List Leg) (test : Leg → Bool) (f : Leg → ℕ) → ((l : Leg) → Among L l → test l ≡ true → f l ≡ 0) → sum_where L test f ≡ 0
sum_false L test f h =
    let low : sum_where L test f ≤ sum_where L test (λ l. 0) = sum_le L test f (λ l. 0) (λ l a t. omega (arith, h l a t)) in
    omega (arith, low, sum_none L test (λ l. 0) (λ l a. refl))

-- the sum of one term
pub sum_only : (L : List Leg) (test : Leg → Bool) (f : Leg → ℕ) (m : Leg) → Increase L → Among L m → test m ≡ true
    → ((l : Leg) → Among L l → test l ≡ true → l ≡ m) → sum_where L test f ≡ f m
sum_only [] test f m i a t h = absurd a
sum_only (l ∷ L) test f m i a t h = ⊎_elim
    (λ e.
    let later : (x : Leg) → Among L x → test x ≡ true → f x ≡ 0 = λ x b c.
    let z : x ≡ m = h x (inr b) c in absurd (omega (arith, later_places l.place L i.0 x b, ap (λ (y : Leg). y.place) (z ∙ sym e))) in
    let rest : sum_where L test f ≡ 0 = sum_false L test f later in
    let one : when (test l) (f l) ≡ when (test m) (f m) = ap (λ (x : Leg). when (test x) (f x)) e in
    let two : when (test m) (f m) ≡ f m = ap (λ b. when b (f m)) t in
    omega (arith, rest, one, two))
    (λ b.
    let first : when (test l) (f l) ≡ 0 = ⊎_elim
    (λ c. let z : l ≡ m = h l (inl refl) c in absurd (omega (arith, later_places l.place L i.0 m b, ap (λ (y : Leg). y.place) z)))
    (λ c. ap (λ d. when d (f l)) c)
    (cases_Bool (test l)) in
    omega (arith, first, sum_only L test f m i.1 b t (λ x c. h x (inr c))))
    a

-- where one term at most is 1, and the others are 0
pub sum_one : (L : List Leg) (test : Leg → Bool) (f : Leg → ℕ) → Increase L → ((l : Leg) → Among L l → f l ≤ 1)
    → ((l m : Leg) → Among L l → Among L m → test l ≡ true → test m ≡ true → 0 < f l → 0 < f m → l ≡ m) → sum_where L test f ≤ 1
sum_one [] test f i low h = omega arith
sum_one (l ∷ L) test f i low h = ⊎_elim
    (λ pos.
    let (t, some) : (test l ≡ true) × (0 < f l) = when_some (test l) 0 (f l) (omega (arith, pos, none (test l))) in
    let rest : sum_where L test f ≡ 0 = sum_false L test f (λ x b c. ⊎_elim
    (λ more. let z : l ≡ x = h l x (inl refl) (inr b) t c some more in absurd (omega (arith, later_places l.place L i.0 x b, ap (λ (y : Leg). y.place) z)))
    (λ nothing. omega (arith, nothing))
    (cases_lt 0 (f x))) in
    omega (arith, rest, when_small (test l) (f l) (low l (inl refl))))
    (λ nothing. omega (arith, nothing, sum_one L test f i.1 (λ x b. low x (inr b)) (λ x y b c. h x y (inr b) (inr c))))
    (cases_lt 0 (when (test l) (f l)))
  where
    none : (b : Bool) → when b 0 ≡ 0
    none true = refl
    none false = refl
