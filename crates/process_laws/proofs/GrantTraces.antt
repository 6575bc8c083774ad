-- The same traces are those of a grant; directions of the symbols of a list.
use Rattle.std.proofs.Common.{◌≡◌, ℕ, Bool, true, false, true≢false, ◌||◌, nat_eq, List, [], ◌∷◌, ◌++◌, IsTrue, refl, sym, ap, ◌∙◌, eqb-true}
use Rattle.std.specs.List.{AllByRecursion}
use Rattle.cmd_tree.specs.Lists.{is_in}
use Rattle.process_laws.specs.Granting.{Granting}

pub granting_by : (granted asking : List ℕ) (spare : ℕ) (S T : List ℕ → Type 0) → ((t : List ℕ) → S t → T t)
    → ((t : List ℕ) → T t → S t) → Granting granted asking spare S → Granting granted asking spare T
granting_by granted asking spare S T there back g = record {
  empty = there [] g.empty;
  prefix = λ t u h. there t (g.prefix t u (back (t ++ u) h));
  known = λ t a h. g.known t a (back (t ++ a ∷ []) h);
  low = λ t h. g.low t (back t h);
  high = λ t h. g.high t (back t h);
  gives = λ t p is. (
    λ h. let k = (g.gives t p is).0 (back (t ++ p ∷ []) h) in (there t k.0, k.1),
    λ h. there (t ++ p ∷ []) ((g.gives t p is).1 (back t h.0, h.1)),
  );
  takes = λ t a is h. g.takes t a is (back (t ++ a ∷ []) h);
}

pub of_way : (out : ℕ → Bool) (d : Bool) (xs : List ℕ) → AllByRecursion (λ a. out a ≡ d) xs → (a : ℕ)
    → IsTrue (is_in a xs) → out a ≡ d
of_way out d [] all a h = absurd (true≢false (sym h))
of_way out d (x ∷ xs) all a h = by (nat_eq a x) refl h (of_way out d xs all.1 a)
  where
    by : (b : Bool) → nat_eq a x ≡ b → IsTrue (b || is_in a xs) → (IsTrue (is_in a xs) → out a ≡ d)
        → out a ≡ d
    by true e h k = ap out (eqb-true a x e) ∙ all.0
    by false e h k = k h

-- symbols of two directions differ
pub ways_apart : (out : ℕ → Bool) (xs ys : List ℕ) → AllByRecursion (λ a. out a ≡ true) xs
    → AllByRecursion (λ a. out a ≡ false) ys → (a : ℕ) → IsTrue (is_in a xs) → is_in a ys ≡ false
ways_apart out xs ys all none a h = by (is_in a ys) refl
  where
    by : (b : Bool) → is_in a ys ≡ b → b ≡ false
    by true e = absurd (true≢false (sym (of_way out true xs all a h) ∙ of_way out false ys none a e))
    by false e = refl
