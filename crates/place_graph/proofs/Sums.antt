-- Sums over legs, and how often legs are completed.
use Rattle.std.proofs.Common.{◌≡◌, inl, inr, ⊎_elim, ℕ, zero, suc, ◌+◌, ◌<◌, ◌≤◌, Bool, true, false, true≢false, List, [], ◌∷◌, ◌++◌, IsTrue, refl, sym, ap, ◌∙◌, subst, arith, if◌then◌else◌, eq-eqb, ne_eqb}
use Rattle.std.specs.List.{AllByRecursion}
use Rattle.std.proofs.lemmas.Bool.{cases_Bool}
use Rattle.cmd_tree.specs.Lists.{is_in}
use Rattle.cmd_tree.specs.Meaning.{symbols}
use Rattle.cmd_tree.specs.Residual.{without}
use Rattle.cmd_tree.proofs.Bursts.{count, count_is, count_without, is_in_from_count, count_from_is_in}
use Rattle.place_graph.specs.declared.leg.Leg.{Leg}
use Rattle.place_graph.specs.Points.{Among}
use Rattle.place_graph.specs.Tale.{one_if, times, times_in, Chain}
use Rattle.place_graph.specs.Chart.{Increase, sum_where, to_at, from_at, in_leg, done}
use Rattle.place_graph.proofs.Charted.{times_is}

-- ---- how often a symbol stands in a list

abbrev bit : Bool → ℕ
bit b = if b then 1 else 0

pub times_count : (a : ℕ) (xs : List ℕ) → times a xs ≡ count a xs
times_count a xs = times_is a xs ∙ sym (count_is a xs)

pub times_without : (a b : ℕ) (xs : List ℕ) → IsTrue (is_in a xs) → times b xs ≡ times b (a ∷ without a xs)
times_without a b xs h = times_count b xs ∙ count_without a b xs h ∙ sym (times_count b (a ∷ without a xs))

pub in_from_times : (a : ℕ) (xs : List ℕ) → 0 < times a xs → IsTrue (is_in a xs)
in_from_times a xs h = is_in_from_count a xs (omega (arith, h, times_count a xs))

pub times_from_in : (a : ℕ) (xs : List ℕ) → IsTrue (is_in a xs) → 0 < times a xs
times_from_in a xs h = omega (arith, count_from_is_in a xs h, times_count a xs)

pub one_same : (x y : ℕ) → x ≡ y → one_if x y ≡ 1
one_same x y e = ap bit (eq-eqb x y e)

pub one_other : (x y : ℕ) → (x ≡ y → ⊥) → one_if x y ≡ 0
one_other x y e = ap bit (ne_eqb x y e)

pub times_append : (a : ℕ) (xs ys : List ℕ) → times a (xs ++ ys) ≡ times a xs + times a ys
times_append a [] ys = omega arith
times_append a (x ∷ xs) ys = omega (arith, times_append a xs ys)

-- a symbol that stands at most once
pub once_is : (a : ℕ) (xs : List ℕ) → times a xs ≤ 1 → times a xs ≡ (if is_in a xs then 1 else 0)
once_is a xs h = ⊎_elim
    (λ e. omega (arith, h, times_from_in a xs e, ap bit e))
    (λ e. none (times a xs) refl e)
    (cases_Bool (is_in a xs))
  where
    none : (n : ℕ) → times a xs ≡ n → is_in a xs ≡ false → times a xs ≡ (if is_in a xs then 1 else 0)
    none zero z e = z ∙ ap bit (sym e)
    none (suc n) z e = absurd (true≢false (sym (in_from_times a xs (omega (arith, z))) ∙ e))

-- ---- sums

abbrev when : Bool → ℕ → ℕ
when b n = if b then n else 0

when_plus : (b : Bool) (m n : ℕ) → (if b then m + n else 0) ≡ (if b then m else 0) + (if b then n else 0)
when_plus true m n = refl
when_plus false m n = refl

when_zero : (b : Bool) → when b 0 ≡ 0
when_zero true = refl
when_zero false = refl

pub sum_plus : (L : List Leg) (test : Leg → Bool) (f g : Leg → ℕ)
    → sum_where L test (λ l. f l + g l) ≡ sum_where L test f + sum_where L test g
sum_plus [] test f g = refl
sum_plus (l ∷ L) test f g = omega (arith, when_plus (test l) (f l) (g l), sum_plus L test f g)

pub sum_none : (L : List Leg) (test : Leg → Bool) (f : Leg → ℕ) → ((l : Leg) → Among L l → f l ≡ 0)
    → sum_where L test f ≡ 0
sum_none [] test f h = refl
sum_none (l ∷ L) test f h = omega (
  arith,
  ap (λ n. if test l then n else 0) (h l (inl refl)),
  when_zero (test l),
  sum_none L test f
      (λ m a. h m (inr a)),
)

pub later_places : (n : ℕ) (L : List Leg) → AllByRecursion (λ m. n < m.place) L → (l : Leg) → Among L l
    → n < l.place
later_places n [] h l a = absurd a
later_places n (m ∷ L) h l a = ⊎_elim (λ e. subst (λ x. n < x.place) e h.0) (λ b. later_places n L h.1 l b) a

-- a leg stands there once
sum_lone : (L : List Leg) (test : Leg → Bool) (l : Leg) → Increase L → Among L l
    → sum_where L test (λ m. one_if m.place l.place) ≡ (if test l then 1 else 0)
sum_lone [] test l h a = absurd a
sum_lone (m ∷ L) test l h a = ⊎_elim
    (λ e.
    let rest : sum_where L test (λ x. one_if x.place l.place) ≡ 0 = sum_none L test
    (λ x. one_if x.place l.place)
    (λ x b. one_other x.place l.place
    (λ z. omega (arith, z, later_places m.place L h.0 x b, ap (λ (y : Leg). y.place) e))) in
    let here : (if test m then one_if m.place l.place else 0) ≡ (if test l then 1 else 0) = ap
    (λ n. if test m then n else 0) (one_same m.place l.place (ap (λ (y : Leg). y.place) e))
    ∙ ap (λ (y : Leg). bit (test y)) e in
    omega (arith, rest, here))
    (λ b.
    let here : (if test m then one_if m.place l.place else 0) ≡ 0 = ap (λ n. if test m then n else 0)
    (one_other m.place l.place (λ z. omega (arith, z, later_places m.place L h.0 l b)))
    ∙ when_zero (test m) in
    omega (arith, here, sum_lone L test l h.1 b))
    a

pub sum_done : (L : List Leg) (test : Leg → Bool) (l : Leg) (past : List Leg) → Increase L → Among L l
    → sum_where L test (done (l ∷ past)) ≡ (if test l then 1 else 0) + sum_where L test (done past)
sum_done L test l past h a = sum_plus L test (λ m. one_if m.place l.place) (done past)
    ∙ ap (λ n. n + sum_where L test (done past)) (sum_lone L test l h a)

pub sum_nothing : (L : List Leg) (test : Leg → Bool) → sum_where L test (done []) ≡ 0
sum_nothing L test = sum_none L test (done []) (λ l a. refl)

-- ---- along a chain

pub chain_flow : (L : List Leg) → Increase L → (past : List Leg) (here x : ℕ) → Chain L 1 past here
    → one_if x 1 + sum_where L (to_at x) (done past) ≡ sum_where L (from_at x) (done past) + one_if x here
chain_flow L h [] here x c = omega
    (arith, sum_nothing L (to_at x), sum_nothing L (from_at x), ap (one_if x) c)
chain_flow L h (l ∷ past) here x c = omega (
  arith,
  chain_flow L h past l.from x c.2,
  sum_done L (to_at x) l past h c.0,
  sum_done L (from_at x) l
      past h c.0,
  ap (one_if x) c.1,
)

pub chain_times : (L : List Leg) → Increase L
    → ((l : Leg) (a : ℕ) → Among L l → times a (symbols l.marks) ≤ 1) → (past : List Leg) (here a : ℕ)
    → Chain L 1 past here → times_in a past ≡ sum_where L (in_leg a) (done past)
chain_times L h few [] here a c = sym (sum_nothing L (in_leg a))
chain_times L h few (l ∷ past) here a c = omega (
  arith,
  chain_times L h few past l.from a c.2,
  sum_done L (in_leg a) l past h c.0,
  once_is a
      (symbols l.marks) (few l a c.0),
)
