-- Wires of a network of one wait in order, found by name.
use Rattle.std.proofs.Common.{rules, ◌≡◌, inl, inr, ℕ, zero, suc, ◌+◌, ◌<◌, ◌≤◌, Bool, true, false, true≢false, ◌||◌, cond, List, [], ◌∷◌, ◌++◌, map, length, get_or, take, Some, None, refl, sym, ap, ◌∙◌, subst, arith, ltb}
use Rattle.std.specs.Prelude.{not}
use Rattle.std.specs.List.{list_any, position, position_or_len}
use Rattle.std.proofs.lemmas.Bool.{ltb-false}
use Rattle.std.proofs.lemmas.List.{get_or-map, length-map, take_more}
use Rattle.indexmap.specs.IndexSet.{insert_key}
use Rattle.net_laws.proofs.Among.{Among, Distinct, at_among}
use Rattle.net_laws.proofs.Webs.{test_decides}
use native.Mathlib.Decide.{ℕ_discrete}
use Rattle.plain_split.specs.declared.paths.Wire.{Wire}
use Rattle.plain_split.specs.contracts.paths.WirePartialEq.TheImpl.{eq-value}
use Rattle.plain_split.specs.SharedPaths.{place}
use Rattle.plain_split.specs.OneWait.{same_wire, wire_discrete}
use Rattle.plain_split.specs.Mirror.OneWaitTables.{wire_of}

same_eq : (a b : Wire) → eq-value.it a b ≡ same_wire (wire_of a) (wire_of b)
same_eq a b = search rules

-- ---- where a wire stands
named_place : (w : Wire) (xs : List Wire) → position_or_len (eq-value.it w) xs ≡ place same_wire (map wire_of xs) (wire_of w)
named_place w [] = refl
named_place w (x ∷ xs) = ap (λ b. cond (not b) (1 + position_or_len (eq-value.it w) xs) 0) (same_eq w x) ∙ ap (λ k. cond (not (same_wire (wire_of w) (wire_of x))) (1 + k) 0) (named_place w xs)

place_most : (t : Wire → Bool) (xs : List Wire) → position_or_len t xs ≤ length xs
place_most t [] = omega arith
place_most t (x ∷ xs) = by (t x) (place_most t xs)
  where
    by : (b : Bool) → position_or_len t xs ≤ length xs → cond (not b) (1 + position_or_len t xs) 0 ≤ length (x ∷ xs)
    by true l = omega arith
    by false l = omega (arith, l)

pub found_place : (w : Wire) (xs : List Wire) (k : ℕ) → position (eq-value.it w) xs ≡ Some k → k ≡ place same_wire (map wire_of xs) (wire_of w)
found_place w xs k e = by (ltb (position_or_len (eq-value.it w) xs) (length xs)) e ∙ named_place w xs
  where
    by : (b : Bool) → cond b (Some (position_or_len (eq-value.it w) xs)) None ≡ Some k → k ≡ position_or_len (eq-value.it w) xs
    by true h = cc
    by false h = absurd (cc)

pub missing_place : (w : Wire) (xs : List Wire) → position (eq-value.it w) xs ≡ None → length xs ≡ place same_wire (map wire_of xs) (wire_of w)
missing_place w xs e = by (ltb (position_or_len (eq-value.it w) xs) (length xs)) refl e ∙ named_place w xs
  where
    by : (b : Bool) → ltb (position_or_len (eq-value.it w) xs) (length xs) ≡ b → cond b (Some (position_or_len (eq-value.it w) xs)) None ≡ None
        → length xs ≡ position_or_len (eq-value.it w) xs
    by true f h = absurd (cc)
    by false f h = omega (arith, ltb-false (position_or_len (eq-value.it w) xs) (length xs) f, place_most (eq-value.it w) xs)

-- ---- a wire that is none of those before it
fresh : (d : Wire) (xs : List Wire) (i : ℕ) → Distinct (map wire_of xs) → i < length xs → list_any (eq-value.it (get_or xs i d)) (take i xs) ≡ false
fresh d [] i u low = absurd (omega (arith, low))
fresh d (x ∷ xs) zero u low = refl
fresh d (x ∷ xs) (suc i) u low = by (eq-value.it (get_or xs i d) x) (same_eq (get_or xs i d) x) (fresh d xs i u.1 (omega (arith, low)))
  where
    among : wire_of (get_or xs i d) ≡ wire_of x → Among (wire_of x) (map wire_of xs)
    among e =
        let inside : i < length xs = omega (arith, low) in
        subst (λ v. Among v (map wire_of xs)) (get_or-map wire_of xs i d (wire_of d) inside ∙ e) (at_among (wire_of d) (map wire_of xs) i (omega (arith, inside, length-map xs wire_of)))

    by : (b : Bool) → b ≡ same_wire (wire_of (get_or xs i d)) (wire_of x) → list_any (eq-value.it (get_or xs i d)) (take i xs) ≡ false
        → (b || list_any (eq-value.it (get_or xs i d)) (take i xs)) ≡ false
    by true e h = elim (test_decides (wire_discrete ℕ_discrete) (wire_of (get_or xs i d)) (wire_of x)) [
      | inl (t, same) ↦ absurd (u.0 (among same))
      | inr (f, n) ↦ absurd (true≢false (e ∙ f))
    ]
    by false e h = h

pub kept_more : (d : Wire) (xs keys more : List Wire) (i : ℕ) (w : Wire) → Distinct (map wire_of xs) → i < length xs → keys ≡ take i xs → w ≡ get_or xs i d
    → more ≡ insert_key eq-value.it keys w → more ≡ take (i + 1) xs
kept_more d xs keys more i w u low k e m =
    m ∙ ap (λ ks. insert_key eq-value.it ks w) k ∙ ap (insert_key eq-value.it (take i xs)) e
    ∙ ap (λ b. cond b (take i xs) (take i xs ++ get_or xs i d ∷ [])) (fresh d xs i u low) ∙ sym (take_more xs i d low)
