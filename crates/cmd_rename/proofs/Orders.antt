-- Numbers put one after the other, each once.
use Rattle.std.proofs.Common.{◌≡◌, ℕ, ◌+◌, ◌≤◌, Bool, true, false, ◌||◌, List, [], ◌∷◌, ◌++◌, map, length, length-append, refl, sym, ap, ◌∙◌, subst, arith, append_assoc, append-nil, eq-eqb, eqb-true}
use Rattle.std.specs.Prelude.{IsTrue, nat_eq, if◌then◌else◌}
use Rattle.std.proofs.lemmas.List.{map-append}
use Rattle.cmd_tree.specs.declared.tree.Mark.{Mark}
use Rattle.cmd_tree.specs.declared.tree.Proc.{Proc}
use Rattle.cmd_tree.specs.Limits.{marks_of_all}
use Rattle.cmd_tree.specs.Lists.{is_in}
use Rattle.cmd_rename.specs.Renaming.{ren_all}
use Rattle.cmd_rename.specs.Symbols.{symbols_in, put, put_each, symbols_of}
use Rattle.cmd_rename.proofs.Laws.{in_left, in_right, ren_symbols, marks_of_both}

if_both : {A : Type 0} → (P : A → Type 0) (b : Bool) (x y : A) → (b ≡ true → P x) → (b ≡ false → P y) → P (if b then x else y)
if_both P true x y f g = f refl
if_both P false x y f g = g refl

in_one : (a : ℕ) → IsTrue (is_in a (a ∷ []))
in_one a = ap (λ b. b || false) (eq-eqb a a refl)

pub put_in : (xs : List ℕ) (a : ℕ) → IsTrue (is_in a xs) → put xs a ≡ xs
put_in xs a h = ap (λ b. if b then xs else xs ++ a ∷ []) h

pub put_new : (xs : List ℕ) (a : ℕ) → is_in a xs ≡ false → put xs a ≡ xs ++ a ∷ []
put_new xs a h = ap (λ b. if b then xs else xs ++ a ∷ []) h

has_put : (xs : List ℕ) (a : ℕ) → IsTrue (is_in a (put xs a))
has_put xs a = if_both (λ u. IsTrue (is_in a u)) (is_in a xs) xs (xs ++ a ∷ []) (λ h. h) (λ h. in_right a xs (a ∷ []) (in_one a))

kept_put : (xs : List ℕ) (a b : ℕ) → IsTrue (is_in a xs) → IsTrue (is_in a (put xs b))
kept_put xs a b h = if_both (λ u. IsTrue (is_in a u)) (is_in b xs) xs (xs ++ b ∷ []) (λ q. h) (λ q. in_left a xs (b ∷ []) h)

pub kept_each : (xs ys : List ℕ) (a : ℕ) → IsTrue (is_in a xs) → IsTrue (is_in a (put_each xs ys))
kept_each xs [] a h = h
kept_each xs (y ∷ ys) a h = kept_each (put xs y) ys a (kept_put xs a y h)

-- what was put is there
pub in_each : (xs ys : List ℕ) (a : ℕ) → IsTrue (is_in a ys) → IsTrue (is_in a (put_each xs ys))
in_each xs [] a h = absurd (cc)
in_each xs (y ∷ ys) a h = by (nat_eq a y) refl h (λ k. in_each (put xs y) ys a k)
  where
    by : (b : Bool) → nat_eq a y ≡ b → IsTrue (b || is_in a ys) → (IsTrue (is_in a ys) → IsTrue (is_in a (put_each (put xs y) ys))) → IsTrue (is_in a (put_each (put xs y) ys))
    by true e k f = kept_each (put xs y) ys a (subst (λ u. IsTrue (is_in u (put xs y))) (sym (eqb-true a y e)) (has_put xs y))
    by false e k f = f k

pub each_both : (xs ys zs : List ℕ) → put_each xs (ys ++ zs) ≡ put_each (put_each xs ys) zs
each_both xs [] zs = refl
each_both xs (y ∷ ys) zs = each_both (put xs y) ys zs

in_mapped : (f : ℕ → ℕ) (a : ℕ) (ys : List ℕ) → IsTrue (is_in a ys) → IsTrue (is_in (f a) (map f ys))
in_mapped f a [] h = absurd (cc)
in_mapped f a (y ∷ ys) h = by (nat_eq a y) refl h (λ k. in_mapped f a ys k)
  where
    or_second : (b c : Bool) → IsTrue c → IsTrue (b || c)
    or_second true c k = refl
    or_second false c k = k

    by : (b : Bool) → nat_eq a y ≡ b → IsTrue (b || is_in a ys) → (IsTrue (is_in a ys) → IsTrue (is_in (f a) (map f ys))) → IsTrue (nat_eq (f a) (f y) || is_in (f a) (map f ys))
    by true e k g = ap (λ b. b || is_in (f a) (map f ys)) (eq-eqb (f a) (f y) (ap f (eqb-true a y e)))
    by false e k g = or_second (nat_eq (f a) (f y)) (is_in (f a) (map f ys)) (g k)

put_mapped : (f : ℕ → ℕ) (xs ys : List ℕ) (a : ℕ) → put_each xs (map f (put ys a)) ≡ put (put_each xs (map f ys)) (f a)
put_mapped f xs ys a = if_both (λ u. put_each xs (map f u) ≡ put (put_each xs (map f ys)) (f a)) (is_in a ys) ys (ys ++ a ∷ [])
    (λ h. sym (put_in (put_each xs (map f ys)) (f a) (in_each xs (map f ys) (f a) (in_mapped f a ys h))))
    (λ h. ap (put_each xs) (map-append f ys (a ∷ [])) ∙ each_both xs (map f ys) (f a ∷ []))

-- what f makes of numbers is put, whether each of them once or all of them
pub each_mapped : (f : ℕ → ℕ) (xs ys zs : List ℕ) → put_each xs (map f (put_each ys zs)) ≡ put_each (put_each xs (map f ys)) (map f zs)
each_mapped f xs ys [] = refl
each_mapped f xs ys (z ∷ zs) = each_mapped f xs (put ys z) zs ∙ ap (λ u. put_each u (map f zs)) (put_mapped f xs ys z)

-- the symbols of renamed processes behind others
pub symbols_added : (f : ℕ → ℕ) (ps qs : List Proc) → put_each (symbols_of ps) (map f (symbols_of qs)) ≡ symbols_of (ps ++ ren_all f qs)
symbols_added f ps qs =
    each_mapped f (symbols_of ps) [] (symbols_in (marks_of_all qs)) ∙ ap (put_each (symbols_of ps)) (sym (ren_symbols f qs))
    ∙ sym (each_both [] (symbols_in (marks_of_all ps)) (symbols_in (marks_of_all (ren_all f qs))))
    ∙ ap (put_each []) (sym (map-append (λ (m : Mark). m.sym.0) (marks_of_all ps) (marks_of_all (ren_all f qs))) ∙ ap symbols_in (sym (marks_of_both ps (ren_all f qs))))

pub symbols_joined : (ps qs : List Proc) → put_each (symbols_of ps) (symbols_in (marks_of_all qs)) ≡ symbols_of (ps ++ qs)
symbols_joined ps qs =
    sym (each_both [] (symbols_in (marks_of_all ps)) (symbols_in (marks_of_all qs)))
    ∙ ap (put_each []) (sym (map-append (λ (m : Mark). m.sym.0) (marks_of_all ps) (marks_of_all qs)) ∙ ap symbols_in (sym (marks_of_both ps qs)))

-- ---- as many numbers as were put: they stand as they were put
put_length : (xs : List ℕ) (a : ℕ) → length (put xs a) ≤ length xs + 1
put_length xs a = if_both (λ u. length u ≤ length xs + 1) (is_in a xs) xs (xs ++ a ∷ []) (λ h. omega arith) (λ h. omega (arith, length-append xs (a ∷ [])))

each_length : (xs ys : List ℕ) → length (put_each xs ys) ≤ length xs + length ys
each_length xs [] = omega arith
each_length xs (y ∷ ys) = omega (arith, each_length (put xs y) ys, put_length xs y)

apart_new : (xs : List ℕ) (y : ℕ) (ys : List ℕ) → put xs y ≡ xs ++ y ∷ [] → (length (put_each (put xs y) ys) ≡ length (put xs y) + length ys → put_each (put xs y) ys ≡ put xs y ++ ys)
    → length (put_each (put xs y) ys) ≡ length xs + length (y ∷ ys) → put_each (put xs y) ys ≡ xs ++ y ∷ ys
apart_new xs y ys e f h =
    let n : length (put xs y) ≡ length xs + 1 = ap length e ∙ length-append xs (y ∷ []) in
    f (omega (arith, h, n)) ∙ ap (λ u. u ++ ys) e ∙ append_assoc xs (y ∷ []) ys

apart_in : (xs : List ℕ) (y : ℕ) (ys : List ℕ) → put xs y ≡ xs → length (put_each (put xs y) ys) ≡ length xs + length (y ∷ ys) → ⊥
apart_in xs y ys e h = let n : length (put xs y) ≡ length xs = ap length e in omega (arith, h, n, each_length (put xs y) ys)

pub each_apart : (xs ys : List ℕ) → length (put_each xs ys) ≡ length xs + length ys → put_each xs ys ≡ xs ++ ys
each_apart xs [] h = sym (append-nil xs)
each_apart xs (y ∷ ys) h = by (is_in y xs) refl (λ k. each_apart (put xs y) ys k)
  where
    by : (b : Bool) → is_in y xs ≡ b → (length (put_each (put xs y) ys) ≡ length (put xs y) + length ys → put_each (put xs y) ys ≡ put xs y ++ ys) → put_each (put xs y) ys ≡ xs ++ y ∷ ys
    by true e f = absurd (apart_in xs y ys (put_in xs y e) h)
    by false e f = apart_new xs y ys (put_new xs y e) f h
