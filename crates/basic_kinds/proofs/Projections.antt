-- Rules of counts on a trace and on its projection to some symbols.
use Rattle.std.proofs.Common.{◌≡◌, ⊎_elim, ℕ, zero, suc, ◌+◌, ◌<◌, ◌≤◌, Bool, true, false, true≢false, cond, nat_eq, List, [], ◌∷◌, ◌++◌, map, IsTrue, refl, sym, ap, ◌∙◌, subst, arith, append-nil, filter}
use Rattle.std.specs.List.{AllByRecursion, range_with_len}
use Rattle.std.proofs.lemmas.Bool.{cases_eq}
use Rattle.std.proofs.lemmas.List.Elements.{filter-append}
use Rattle.cmd_tree.specs.Rounds.{counts, Follows}
use Rattle.cmd_tree.proofs.Bursts.{count, count_is}
use Rattle.cmd_tree.proofs.Phases.{count_other}
use Rattle.cmd_tree.proofs.RoundsRule.{counts_is}

-- ---- lists

pub all_front : {X : Type 0} (P : X → Type 0) (xs ys : List X) → AllByRecursion P (xs ++ ys)
    → AllByRecursion P xs × AllByRecursion P ys
all_front P [] ys h = (tt, h)
all_front P (x ∷ xs) ys h = let k = all_front P xs ys h.1 in ((h.0, k.0), k.1)

pub front_all : {X : Type 0} (P : X → Type 0) (xs ys : List X) → AllByRecursion P xs → AllByRecursion P ys
    → AllByRecursion P (xs ++ ys)
front_all P [] ys h k = k
front_all P (x ∷ xs) ys h k = (h.0, front_all P xs ys h.1 k)

pub range_all : {X : Type 0} (P : X → Type 0) (f : ℕ → X) (s n : ℕ) → ((i : ℕ) → s ≤ i → i < s + n → P (f i))
    → AllByRecursion P (map f (range_with_len s n))
range_all P f s zero h = tt
range_all P f s (suc n) h = (
  h s (omega arith) (omega arith),
  range_all P f (s + 1) n (λ i low high. h i (omega arith) (omega arith)),
)

pub all_range : {X : Type 0} (P : X → Type 0) (f : ℕ → X) (s n : ℕ)
    → AllByRecursion P (map f (range_with_len s n)) → (i : ℕ) → s ≤ i → i < s + n → P (f i)
all_range P f s zero h i low high = absurd (omega arith)
all_range P f s (suc n) h i low high = ⊎_elim
    (λ e. subst (λ x. P (f x)) (sym e) h.0)
    (λ d. all_range P f (s + 1) n h.1 i (omega arith) (omega arith))
    (cases_eq i s)

-- ---- several rules at once

pub follows_family : (Ix : ℕ → Type 0) (R : ℕ → List ℕ → ℕ → Type 0) (t u : List ℕ)
    → ((i : ℕ) → Ix i → Follows (R i) u t) → Follows (λ v a. (i : ℕ) → Ix i → R i v a) u t
follows_family Ix R [] u h = tt
follows_family Ix R (a ∷ t) u h = (λ i x. (h i x).0, follows_family Ix R t (u ++ a ∷ []) (λ i x. (h i x).1))

pub follows_both : (A B : List ℕ → ℕ → Type 0) (t u : List ℕ) → Follows A u t → Follows B u t
    → Follows (λ v a. A v a × B v a) u t
follows_both A B [] u h k = tt
follows_both A B (a ∷ t) u h k = ((h.0, k.0), follows_both A B t (u ++ a ∷ []) h.1 k.1)

pub each_follows : (P : ℕ → Type 0) (t u : List ℕ) → AllByRecursion P t → Follows (λ v a. P a) u t
each_follows P [] u h = tt
each_follows P (a ∷ t) u h = (h.0, each_follows P t (u ++ a ∷ []) h.1)

-- ---- counts of a projection

module _ (test : ℕ → Bool) where
  count_filter : (x : ℕ) → IsTrue (test x) → (u : List ℕ) → count x (filter test u) ≡ count x u
  count_filter x h [] = refl
  count_filter x h (a ∷ u) = by (test a) refl (count_filter x h u)
    where
      by : (b : Bool) → test a ≡ b → count x (filter test u) ≡ count x u
          → count x (cond b (a ∷ filter test u) (filter test u)) ≡ count x (a ∷ u)
      by true e k = ap (λ n. cond (nat_eq x a) (1 + n) n) k
      by false e k = k ∙ sym (count_other x a u
          (λ z. true≢false (sym (subst (λ y. IsTrue (test y)) z h) ∙ e)))

  pub counts_filter : (u : List ℕ) (x : ℕ) → IsTrue (test x) → counts (filter test u) x ≡ counts u x
  counts_filter u x h = counts_is (filter test u) x ∙ sym (count_is x (filter test u)) ∙ count_filter x h u
      ∙ count_is x u ∙ sym (counts_is u x)

  filter_end : (u : List ℕ) (a : ℕ) (b : Bool) → test a ≡ b → filter test (u ++ a ∷ [])
      ≡ filter test u ++ cond b (a ∷ []) []
  filter_end u a b e = filter-append test u (a ∷ []) ∙ ap (λ c. filter test u ++ cond c (a ∷ []) []) e

  -- R reads only how often the symbols that pass have come
  module _ (R : (ℕ → ℕ) → ℕ → Type 0)
      (agree : (c d : ℕ → ℕ) → ((x : ℕ) → IsTrue (test x) → c x ≡ d x) → (a : ℕ) → R c a → R d a) where
    abbrev Whole : List ℕ → ℕ → Type 0
    Whole v a = R (counts v) a

    abbrev pub Passing : List ℕ → ℕ → Type 0
    Passing v a = IsTrue (test a) → R (counts v) a

    pub from_projection : (t u : List ℕ) → Follows Whole (filter test u) (filter test t) → Follows Passing u t
    from_projection [] u h = tt
    from_projection (a ∷ t) u h = by (test a) refl h (from_projection t (u ++ a ∷ []))
      where
        by : (b : Bool) → test a ≡ b → Follows Whole (filter test u)
            (cond b (a ∷ filter test t) (filter test t))
            → (Follows Whole (filter test (u ++ a ∷ [])) (filter test t) → Follows Passing (u ++ a ∷ []) t)
            → Passing u a × Follows Passing (u ++ a ∷ []) t
        by true e f k = (
          λ z. agree (counts (filter test u)) (counts u) (counts_filter u) a f.0,
          k (subst (λ y. Follows Whole y (filter test t)) (sym (filter_end u a true e)) f.1),
        )
        by false e f k = (
          λ z. absurd (true≢false (sym z ∙ e)),
          k (subst (λ y. Follows Whole y (filter test t))
              (sym (filter_end u a false e ∙ append-nil (filter test u))) f),
        )

    pub to_projection : (t u : List ℕ) → Follows Passing u t → Follows Whole (filter test u) (filter test t)
    to_projection [] u h = tt
    to_projection (a ∷ t) u h = by (test a) refl (to_projection t (u ++ a ∷ []) h.1)
      where
        by : (b : Bool) → test a ≡ b → Follows Whole (filter test (u ++ a ∷ [])) (filter test t)
            → Follows Whole (filter test u) (cond b (a ∷ filter test t) (filter test t))
        by true e k = (
          agree (counts u) (counts (filter test u)) (λ x z. sym (counts_filter u x z)) a (h.0 e),
          subst (λ y. Follows Whole y (filter test t)) (filter_end u a true e) k,
        )
        by false e k = subst (λ y. Follows Whole y (filter test t))
            (filter_end u a false e ∙ append-nil (filter test u)) k
