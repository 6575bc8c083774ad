-- What is left of a leg: the symbols whose bits are set.
use Rattle.std.proofs.Common.{◌≡◌, ◌≢◌, ℕ, zero, suc, ◌<◌, ◌≤◌, Bool, true, false, true≢false, ◌||◌, nat_eq, if◌then◌else◌, List, [], ◌∷◌, length, slice_get, Some, IsTrue, refl, sym, ap, ◌∙◌, arith, eqb-true, eq-eqb, ne_eqb}
use Rattle.std.proofs.lemmas.List.Sorted.{length_permutation}
use Rattle.cmd_tree.specs.Lists.{is_in}
use Rattle.cmd_tree.specs.Residual.{without}
use Rattle.cmd_tree.proofs.Bursts.{pull}
use Rattle.place_graph.specs.Tale.{times}
use Rattle.place_graph.proofs.Sums.{times_from_in, one_same}
use Rattle.cmd_machine.specs.Mirror.Positions.{kept}

abbrev later : (ℕ → Bool) → ℕ → Bool
later f i = f (suc i)

or_later : (b c d : Bool) → (IsTrue c → IsTrue d) → IsTrue (b || c) → IsTrue (b || d)
or_later true c d f h = refl
or_later false c d f h = f h

pub or_right : (b c : Bool) → IsTrue c → IsTrue (b || c)
or_right true c h = refl
or_right false c h = h

or_false : (b c : Bool) → b ≡ false → IsTrue (b || c) → IsTrue c
or_false true c e h = absurd (true≢false e)
or_false false c e h = h

pub in_at : (xs : List ℕ) (i a : ℕ) → slice_get xs i ≡ Some a → IsTrue (is_in a xs)
in_at [] i a e = absurd (cc)
in_at (b ∷ xs) zero a e = first (nat_eq a b) (is_in a xs) (eq-eqb a b (cc))
  where
    first : (x y : Bool) → x ≡ true → IsTrue (x || y)
    first true y h = refl
    first false y h = absurd (true≢false (sym h))
in_at (b ∷ xs) (suc i) a e = or_right (nat_eq a b) (is_in a xs) (in_at xs i a e)

pub at_in : (xs : List ℕ) (a : ℕ) → IsTrue (is_in a xs) → (i : ℕ) × (slice_get xs i ≡ Some a)
at_in [] a h = absurd (true≢false (sym h))
at_in (b ∷ xs) a h = by (nat_eq a b) refl h (at_in xs a)
  where
    by : (x : Bool) → nat_eq a b ≡ x → IsTrue (x || is_in a xs)
        → (IsTrue (is_in a xs) → (i : ℕ) × (slice_get xs i ≡ Some a)) → (i : ℕ) × (slice_get (b ∷ xs) i ≡ Some a)
    by true e k f = (0, ap Some (sym (eqb-true a b e)))
    by false e k f = let r = f k in (suc r.0, r.1)

-- ---- once

-- a symbol that stands once in a ∷ list and later is not its first
not_first : (a b : ℕ) (xs : List ℕ) → times a (b ∷ xs) ≤ 1 → IsTrue (is_in a xs) → nat_eq a b ≡ false
not_first a b xs few h = ne_eqb a b (λ e. omega (arith, few, times_from_in a xs h, one_same a b e))

not_later : (a b : ℕ) (xs : List ℕ) → times a (b ∷ xs) ≤ 1 → a ≡ b → IsTrue (is_in a xs) → ⊥
not_later a b xs few e h = omega (arith, few, times_from_in a xs h, one_same a b e)

less_later : (a b : ℕ) (xs : List ℕ) → times a (b ∷ xs) ≤ 1 → times a xs ≤ 1
less_later a b xs few = omega (arith, few)

-- ---- kept symbols

abbrev pick : Bool → ℕ → List ℕ → List ℕ
pick b a xs = if b then a ∷ xs else xs

pub kept_same : (f g : ℕ → Bool) → ((i : ℕ) → f i ≡ g i) → (xs : List ℕ) → kept f xs ≡ kept g xs
kept_same f g h [] = refl
kept_same f g h (a ∷ xs) =
    ap (λ b. pick b a (kept (later f) xs)) (h 0)
    ∙ ap (λ t. pick (g 0) a t) (kept_same (later f) (later g) (λ i. h (suc i)) xs)

pub kept_all : (f : ℕ → Bool) (xs : List ℕ) → ((i : ℕ) → i < length xs → f i ≡ true) → kept f xs ≡ xs
kept_all f [] h = refl
kept_all f (a ∷ xs) h =
    ap (λ b. pick b a (kept (later f) xs)) (h 0 (omega arith))
    ∙ ap (λ t. a ∷ t) (kept_all (later f) xs (λ i l. h (suc i) (omega (arith, l))))

pub kept_within : (f : ℕ → Bool) (xs : List ℕ) (a : ℕ) → IsTrue (is_in a (kept f xs)) → IsTrue (is_in a xs)
kept_within f [] a h = h
kept_within f (b ∷ xs) a h = by (f 0) h (kept_within (later f) xs a)
  where
    by : (x : Bool) → IsTrue (is_in a (pick x b (kept (later f) xs)))
        → (IsTrue (is_in a (kept (later f) xs)) → IsTrue (is_in a xs)) → IsTrue (nat_eq a b || is_in a xs)
    by true k r = or_later (nat_eq a b) (is_in a (kept (later f) xs)) (is_in a xs) r k
    by false k r = or_right (nat_eq a b) (is_in a xs) (r k)

-- a kept symbol has its bit set
pub kept_bit : (f : ℕ → Bool) (xs : List ℕ) (i a : ℕ) → slice_get xs i ≡ Some a → times a xs ≤ 1
    → IsTrue (is_in a (kept f xs)) → f i ≡ true
kept_bit f [] i a e few h = absurd (cc)
kept_bit f (b ∷ xs) zero a e few h = by (f 0) refl h
  where
    by : (x : Bool) → f 0 ≡ x → IsTrue (is_in a (pick x b (kept (later f) xs))) → f 0 ≡ true
    by true y k = y
    by false y k = absurd (not_later a b xs few (cc) (kept_within (later f) xs a k))
kept_bit f (b ∷ xs) (suc i) a e few h = by (f 0) h (kept_bit (later f) xs i a e (less_later a b xs few))
  where
    by : (x : Bool) → IsTrue (is_in a (pick x b (kept (later f) xs)))
        → (IsTrue (is_in a (kept (later f) xs)) → f (suc i) ≡ true) → f (suc i) ≡ true
    by true k r = r (or_false (nat_eq a b) (is_in a (kept (later f) xs)) (not_first a b xs few (in_at xs i a e)) k)
    by false k r = r k

-- a symbol whose bit is set is kept
pub bit_kept : (f : ℕ → Bool) (xs : List ℕ) (i a : ℕ) → slice_get xs i ≡ Some a → f i ≡ true
    → IsTrue (is_in a (kept f xs))
bit_kept f [] i a e h = absurd (cc)
bit_kept f (b ∷ xs) zero a e h = in_at (pick (f 0) b (kept (later f) xs)) 0 a
    (ap (λ x. slice_get (pick x b (kept (later f) xs)) 0) h ∙ e)
bit_kept f (b ∷ xs) (suc i) a e h = by (f 0) (bit_kept (later f) xs i a e h)
  where
    by : (x : Bool) → IsTrue (is_in a (kept (later f) xs)) → IsTrue (is_in a (pick x b (kept (later f) xs)))
    by true k = or_right (nat_eq a b) (is_in a (kept (later f) xs)) k
    by false k = k

-- where one bit is cleared, its symbol is no longer kept
pub kept_less : (f g : ℕ → Bool) (xs : List ℕ) (i a : ℕ) → slice_get xs i ≡ Some a → times a xs ≤ 1
    → f i ≡ true → g i ≡ false → ((j : ℕ) → j ≢ i → g j ≡ f j) → kept g xs ≡ without a (kept f xs)
kept_less f g [] i a e few x y same = absurd (cc)
kept_less f g (b ∷ xs) zero a e few x y same =
    ap (λ z. pick z b (kept (later g) xs)) y
    ∙ kept_same (later g) (later f) (λ j. same (suc j) (omega arith)) xs
    ∙ sym (ap (λ z. if z then kept (later f) xs else b ∷ without a (kept (later f) xs)) (eq-eqb a b (cc)))
    ∙ sym (ap (λ z. without a (pick z b (kept (later f) xs))) x)
kept_less f g (b ∷ xs) (suc i) a e few x y same =
    ap (λ z. pick z b (kept (later g) xs)) (same 0 (omega arith))
    ∙ ap (pick (f 0) b)
    (kept_less (later f) (later g) xs i a e (less_later a b xs few) x y (λ j k. same (suc j) (λ l. k (omega (arith, l)))))
    ∙ by (f 0)
  where
    by : (z : Bool) → pick z b (without a (kept (later f) xs)) ≡ without a (pick z b (kept (later f) xs))
    by true = sym
        (ap (λ w. if w then kept (later f) xs else b ∷ without a (kept (later f) xs))
        (not_first a b xs few (in_at xs i a e)))
    by false = refl

pub without_length : (a : ℕ) (xs : List ℕ) → IsTrue (is_in a xs) → length xs ≡ suc (length (without a xs))
without_length a xs h = sym (length_permutation xs (a ∷ without a xs) (pull a xs h))
