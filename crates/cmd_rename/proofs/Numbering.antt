-- Symbols numbered by first occurrence.
use Rattle.std.proofs.Common.{◌≡◌, ℕ, suc, ◌+◌, ◌≤◌, ◌<◌, Bool, true, false, true≢false, ◌||◌, List, [], ◌∷◌, ◌++◌, map, length, length-append, max, refl, sym, ap, ◌∙◌, subst, arith, append_assoc, append-nil, add-one, eq-eqb, eqb-true}
use Rattle.std.specs.Prelude.{IsTrue, nat_eq, if◌then◌else◌}
use Rattle.std.specs.List.{AllByRecursion, IsDistinct}
use Rattle.std.proofs.lemmas.List.{map-append}
use Rattle.cmd_tree.specs.declared.tree.Mark.{Mark}
use Rattle.cmd_tree.specs.declared.tree.Proc.{Proc}
use Rattle.cmd_tree.specs.Limits.{marks_of_all, IsNumbered}
use Rattle.cmd_tree.specs.Lists.{is_in}
use Rattle.cmd_rename.specs.Renaming.{ren_marks}
use Rattle.cmd_rename.specs.Symbols.{symbols_in, put, put_each, symbols_of, rank, renumbered, counted}
use Rattle.cmd_rename.proofs.Laws.{ren_marks_of}
use Rattle.cmd_rename.proofs.Orders.{put_in, put_new}

pub rank_front : (xs ys : List ℕ) (a : ℕ) → IsTrue (is_in a xs) → rank (xs ++ ys) a ≡ rank xs a
rank_front [] ys a h = absurd (cc)
rank_front (x ∷ xs) ys a h = by (nat_eq a x) h (λ k. rank_front xs ys a k)
  where
    by : (b : Bool) → IsTrue (b || is_in a xs) → (IsTrue (is_in a xs) → rank (xs ++ ys) a ≡ rank xs a) → (if b then 0 else suc (rank (xs ++ ys) a)) ≡ (if b then 0 else suc (rank xs a))
    by true k f = refl
    by false k f = ap suc (f k)

pub rank_new : (xs ys : List ℕ) (a : ℕ) → is_in a xs ≡ false → rank (xs ++ a ∷ ys) a ≡ length xs
rank_new [] ys a h = ap (λ b. if b then 0 else suc (rank ys a)) (eq-eqb a a refl)
rank_new (x ∷ xs) ys a h = by (nat_eq a x) h (λ k. rank_new xs ys a k)
  where
    by : (b : Bool) → (b || is_in a xs) ≡ false → (is_in a xs ≡ false → rank (xs ++ a ∷ ys) a ≡ length xs) → (if b then 0 else suc (rank (xs ++ a ∷ ys) a)) ≡ length (x ∷ xs)
    by true k f = absurd (true≢false k)
    by false k f = ap suc (f k)

rank_below : (xs : List ℕ) (a : ℕ) → IsTrue (is_in a xs) → rank xs a < length xs
rank_below [] a h = absurd (cc)
rank_below (x ∷ xs) a h = by (nat_eq a x) h (λ k. rank_below xs a k)
  where
    by : (b : Bool) → IsTrue (b || is_in a xs) → (IsTrue (is_in a xs) → rank xs a < length xs) → (if b then 0 else suc (rank xs a)) < length (x ∷ xs)
    by true k f = omega arith
    by false k f = omega (arith, f k)

record Grows (xs ys : List ℕ) : Type 0 where
  rest : List ℕ
  is : put_each xs ys ≡ xs ++ rest

grows_by : (xs ys : List ℕ) (a : ℕ) (b : Bool) → is_in a xs ≡ b → Grows (put xs a) ys → Grows xs (a ∷ ys)
grows_by xs ys a true e g = record { rest = g.rest; is = g.is ∙ ap (λ u. u ++ g.rest) (put_in xs a e) }
grows_by xs ys a false e g = record { rest = a ∷ g.rest; is = g.is ∙ ap (λ u. u ++ g.rest) (put_new xs a e) ∙ append_assoc xs (a ∷ []) g.rest }

grows : (xs ys : List ℕ) → Grows xs ys
grows xs [] = record { rest = []; is = sym (append-nil xs) }
grows xs (y ∷ ys) = grows_by xs ys y (is_in y xs) refl (grows (put xs y) ys)

record Step (xs all : List ℕ) (a : ℕ) : Type 0 where
  low : rank all a ≤ length xs
  next : max (length xs) (rank all a + 1) ≡ length (put xs a)

step_by : (xs all rest : List ℕ) (a : ℕ) (b : Bool) → is_in a xs ≡ b → all ≡ put xs a ++ rest → Step xs all a
step_by xs all rest a true e h =
    let same : put xs a ≡ xs = put_in xs a e in
    let r : rank all a ≡ rank xs a = ap (λ u. rank u a) (h ∙ ap (λ u. u ++ rest) same) ∙ rank_front xs rest a e in
    let l : rank xs a < length xs = rank_below xs a e in
    record { low = omega (arith, r, l); next = omega (arith, r, l, ap length same) }
step_by xs all rest a false e h =
    let same : put xs a ≡ xs ++ a ∷ [] = put_new xs a e in
    let r : rank all a ≡ length xs = ap (λ u. rank u a) (h ∙ ap (λ u. u ++ rest) same ∙ append_assoc xs (a ∷ []) rest) ∙ rank_new xs rest a e in
    record { low = omega (arith, r); next = omega (arith, r, ap length same, length-append xs (a ∷ [])) }

numbered : (xs : List ℕ) (ms : List Mark) → IsNumbered (length xs) (ren_marks (rank (put_each xs (symbols_in ms))) ms) (length (put_each xs (symbols_in ms)))
numbered xs [] = refl
numbered xs (m ∷ ms) =
    let all = put_each (put xs m.sym.0) (symbols_in ms) in
    let g = grows (put xs m.sym.0) (symbols_in ms) in
    let s = step_by xs all g.rest m.sym.0 (is_in m.sym.0 xs) refl g.is in
    (s.low, subst (λ k. IsNumbered k (ren_marks (rank all) ms) (length all)) (sym s.next) (numbered (put xs m.sym.0) ms))

pub renumbered_numbered : (ps : List Proc) → IsNumbered 0 (marks_of_all (renumbered ps)) (length (symbols_of ps))
renumbered_numbered ps = subst (λ ms. IsNumbered 0 ms (length (symbols_of ps))) (sym (ren_marks_of (rank (symbols_of ps)) ps)) (numbered [] (marks_of_all ps))

-- ---- the ranks of the symbols are 0, 1, 2 ..
same_ranks : (xs ys zs : List ℕ) → ((a : ℕ) → IsTrue (is_in a zs) → IsTrue (is_in a xs)) → map (rank (xs ++ ys)) zs ≡ map (rank xs) zs
same_ranks xs ys [] f = refl
same_ranks xs ys (z ∷ zs) f = λ k. rank_front xs ys z (f z (ap (λ b. b || is_in z zs) (eq-eqb z z refl))) k ∷ same_ranks xs ys zs (λ a h. f a (or_second (nat_eq a z) (is_in a zs) h)) k
  where
    or_second : (b c : Bool) → IsTrue c → IsTrue (b || c)
    or_second true c h = refl
    or_second false c h = h

abbrev Ranked : List ℕ → Type 0
Ranked xs = map (rank xs) xs ≡ counted (length xs)

ranked_by : (xs : List ℕ) (a : ℕ) (b : Bool) → is_in a xs ≡ b → Ranked xs → Ranked (put xs a)
ranked_by xs a true e h = subst Ranked (sym (put_in xs a e)) h
ranked_by xs a false e h = subst Ranked (sym (put_new xs a e))
    (map-append (rank (xs ++ a ∷ [])) xs (a ∷ []) ∙ (λ k. same_ranks xs (a ∷ []) xs (λ b i. i) k ++ rank_new xs [] a e k ∷ []) ∙ ap (λ u. u ++ length xs ∷ []) h
    ∙ ap counted (sym (length-append xs (a ∷ []) ∙ add-one (length xs))))

ranked_each : (xs ys : List ℕ) → Ranked xs → Ranked (put_each xs ys)
ranked_each xs [] h = h
ranked_each xs (y ∷ ys) h = ranked_each (put xs y) ys (ranked_by xs y (is_in y xs) refl h)

pub ranks : (ps : List Proc) → map (rank (symbols_of ps)) (symbols_of ps) ≡ counted (length (symbols_of ps))
ranks ps = ranked_each [] (symbols_in (marks_of_all ps)) refl

-- ---- the symbols are different
apart_sym : (a x : ℕ) → nat_eq a x ≡ false → nat_eq x a ≡ false
apart_sym a x e = by (nat_eq x a) refl
  where
    by : (b : Bool) → nat_eq x a ≡ b → b ≡ false
    by false q = refl
    by true q = absurd (true≢false (sym (eq-eqb a x (sym (eqb-true x a q))) ∙ e))

or_left : (b c : Bool) → (b || c) ≡ false → b ≡ false
or_left true c h = absurd (true≢false h)
or_left false c h = refl

or_right : (b c : Bool) → (b || c) ≡ false → c ≡ false
or_right true c h = absurd (true≢false h)
or_right false c h = h

all_last : (x a : ℕ) (xs : List ℕ) → AllByRecursion (λ y. nat_eq x y ≡ false) xs → nat_eq x a ≡ false → AllByRecursion (λ y. nat_eq x y ≡ false) (xs ++ a ∷ [])
all_last x a [] h e = (e, tt)
all_last x a (y ∷ xs) h e = (h.0, all_last x a xs h.1 e)

distinct_new : (xs : List ℕ) (a : ℕ) → is_in a xs ≡ false → IsDistinct nat_eq xs → IsDistinct nat_eq (xs ++ a ∷ [])
unfolding IsDistinct
distinct_new [] a e h = (tt, tt)
distinct_new (x ∷ xs) a e h = (all_last x a xs h.0 (apart_sym a x (or_left (nat_eq a x) (is_in a xs) e)), distinct_new xs a (or_right (nat_eq a x) (is_in a xs) e) h.1)

distinct_by : (xs : List ℕ) (a : ℕ) (b : Bool) → is_in a xs ≡ b → IsDistinct nat_eq xs → IsDistinct nat_eq (put xs a)
distinct_by xs a true e h = subst (IsDistinct nat_eq) (sym (put_in xs a e)) h
distinct_by xs a false e h = subst (IsDistinct nat_eq) (sym (put_new xs a e)) (distinct_new xs a e h)

distinct_each : (xs ys : List ℕ) → IsDistinct nat_eq xs → IsDistinct nat_eq (put_each xs ys)
distinct_each xs [] h = h
distinct_each xs (y ∷ ys) h = distinct_each (put xs y) ys (distinct_by xs y (is_in y xs) refl h)

pub symbols_distinct : (ps : List Proc) → IsDistinct nat_eq (symbols_of ps)
unfolding IsDistinct
symbols_distinct ps = distinct_each [] (symbols_in (marks_of_all ps)) tt

-- ---- what holds of all that is put
all_new : (P : ℕ → Type 0) (xs : List ℕ) (a : ℕ) → AllByRecursion P xs → P a → AllByRecursion P (xs ++ a ∷ [])
all_new P [] a h p = (p, tt)
all_new P (x ∷ xs) a h p = (h.0, all_new P xs a h.1 p)

all_by : (P : ℕ → Type 0) (xs : List ℕ) (a : ℕ) (b : Bool) → AllByRecursion P xs → P a → AllByRecursion P (if b then xs else xs ++ a ∷ [])
all_by P xs a true h p = h
all_by P xs a false h p = all_new P xs a h p

pub all_each : (P : ℕ → Type 0) (xs ys : List ℕ) → AllByRecursion P xs → AllByRecursion P ys → AllByRecursion P (put_each xs ys)
all_each P xs [] h k = h
all_each P xs (y ∷ ys) h k = all_each P (put xs y) ys (all_by P xs y (is_in y xs) h k.0) k.1
