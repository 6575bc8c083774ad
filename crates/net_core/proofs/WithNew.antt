-- Numbers that are put behind a list where it does not have them.
use Rattle.std.proofs.Common.{◌≡◌, ◌≢◌, ℕ, suc, ◌<◌, ◌≤◌, Bool, true, false, List, [], ◌∷◌, ◌++◌, length, refl, sym, ap, ◌∙◌, subst, arith, inl, inr, eq-eqb, ne_eqb, length-append}
use Rattle.std.specs.Prelude.{if◌then◌else◌, ◌||◌}
use Rattle.std.specs.List.{AllByRecursion}
use Rattle.std.proofs.lemmas.Bool.{cases_eq, false≢true}
use Rattle.net_core.specs.Wiring.{count}
use Rattle.cmd_tree.specs.Lists.{is_in}
use Rattle.net_core.specs.Walk.{with_new}
use Rattle.net_core.proofs.Counting.{count_nil, count_same, count_other, count-append}
use Rattle.net_core.proofs.Sizes.{all_append}
use Rattle.net_core.proofs.Places.{count_more}

pub in_counted : (w : ℕ) (xs : List ℕ) → is_in w xs ≡ true → 0 < count w xs
in_counted w [] h = absurd (false≢true h)
in_counted w (x ∷ xs) h = elim (cases_eq w x) [
  | inl e ↦ subst (λ y. 0 < count w (y ∷ xs)) e (omega (arith, count_same w xs))
  | inr ne ↦ let rest : is_in w xs ≡ true = sym (ap (λ b. b || is_in w xs) (ne_eqb w x ne)) ∙ h in omega (arith, in_counted w xs rest, count_more w x xs)
]

pub not_in_counted : (w : ℕ) (xs : List ℕ) → is_in w xs ≡ false → count w xs ≡ 0
not_in_counted w [] h = count_nil w
not_in_counted w (x ∷ xs) h = elim (cases_eq w x) [
  | inl e ↦ absurd (false≢true (sym h ∙ ap (λ b. b || is_in w xs) (eq-eqb w x e)))
  | inr ne ↦ let rest : is_in w xs ≡ false = sym (ap (λ b. b || is_in w xs) (ne_eqb w x ne)) ∙ h in count_other w x xs ne ∙ not_in_counted w xs rest
]

pub count_last : (w : ℕ) (xs : List ℕ) → count w (xs ++ w ∷ []) ≡ suc (count w xs)
count_last w xs = omega (arith, count-append w xs (w ∷ []), count_same w [], count_nil w)

pub count_not_last : (v w : ℕ) (xs : List ℕ) → v ≢ w → count v (xs ++ w ∷ []) ≡ count v xs
count_not_last v w xs ne = omega (arith, count-append v xs (w ∷ []), count_other v w [] ne, count_nil v)

pub last_once : (w : ℕ) (xs : List ℕ) → count w xs ≡ 0 → ((v : ℕ) → count v xs ≤ 1) → (v : ℕ) → count v (xs ++ w ∷ []) ≤ 1
last_once w xs none once v = elim (cases_eq v w) [
  | inl e ↦ subst (λ y. count y (xs ++ w ∷ []) ≤ 1) (sym e) (omega (arith, count_last w xs))
  | inr ne ↦ omega (arith, count_not_last v w xs ne, once v)
]

abbrev put : Bool → ℕ → List ℕ → List ℕ
put b w ns = if b then ns else ns ++ w ∷ []

put_once : (b : Bool) (w : ℕ) (ns : List ℕ) → is_in w ns ≡ b → ((v : ℕ) → count v ns ≤ 1) → (v : ℕ) → count v (put b w ns) ≤ 1
put_once true w ns e once = once
put_once false w ns e once = last_once w ns (not_in_counted w ns e) once

put_all : (P : ℕ → Type 0) (b : Bool) (w : ℕ) (ns : List ℕ) → P w → AllByRecursion P ns → AllByRecursion P (put b w ns)
put_all P true w ns p all = all
put_all P false w ns p all = all_append P ns (w ∷ []) all (p, tt)

put_keeps : (b : Bool) (w : ℕ) (ns : List ℕ) (v : ℕ) → count v ns ≤ count v (put b w ns)
put_keeps true w ns v = omega arith
put_keeps false w ns v = omega (arith, count-append v ns (w ∷ []))

put_has : (b : Bool) (w : ℕ) (ns : List ℕ) → is_in w ns ≡ b → 0 < count w (put b w ns)
put_has true w ns e = in_counted w ns e
put_has false w ns e = omega (arith, count_last w ns)

put_longer : (b : Bool) (w : ℕ) (ns : List ℕ) → length ns ≤ length (put b w ns)
put_longer true w ns = omega arith
put_longer false w ns = omega (arith, length-append ns (w ∷ []))

pub new_once : (ns vs : List ℕ) → ((v : ℕ) → count v ns ≤ 1) → (v : ℕ) → count v (with_new ns vs) ≤ 1
unfolding with_new
new_once ns [] once = once
new_once ns (w ∷ vs) once = new_once (put (is_in w ns) w ns) vs (put_once (is_in w ns) w ns refl once)

pub new_all : (P : ℕ → Type 0) (ns vs : List ℕ) → AllByRecursion P ns → AllByRecursion P vs → AllByRecursion P (with_new ns vs)
unfolding with_new
new_all P ns [] all more = all
new_all P ns (w ∷ vs) all more = new_all P (put (is_in w ns) w ns) vs (put_all P (is_in w ns) w ns more.0 all) more.1

pub new_keeps : (ns vs : List ℕ) (v : ℕ) → count v ns ≤ count v (with_new ns vs)
unfolding with_new
new_keeps ns [] v = omega arith
new_keeps ns (w ∷ vs) v = omega (arith, put_keeps (is_in w ns) w ns v, new_keeps (put (is_in w ns) w ns) vs v)

pub new_has : (ns vs : List ℕ) (v : ℕ) → 0 < count v vs → 0 < count v (with_new ns vs)
unfolding with_new
new_has ns [] v h = absurd (omega (arith, count_nil v))
new_has ns (w ∷ vs) v h = elim (cases_eq v w) [
  | inl e ↦ subst (λ y. 0 < count y (with_new (put (is_in w ns) w ns) vs)) (sym e)
      (omega (arith, put_has (is_in w ns) w ns refl, new_keeps (put (is_in w ns) w ns) vs w))
  | inr ne ↦ new_has (put (is_in w ns) w ns) vs v (omega (arith, count_other v w vs ne))
]

pub new_longer : (ns vs : List ℕ) → length ns ≤ length (with_new ns vs)
unfolding with_new
new_longer ns [] = omega arith
new_longer ns (w ∷ vs) = omega (arith, put_longer (is_in w ns) w ns, new_longer (put (is_in w ns) w ns) vs)
