-- One process of a command, with its symbols numbered, is a command.
use Rattle.std.proofs.Common.{◌≡◌, ◌≢◌, ℕ, zero, suc, ◌+◌, ◌≤◌, ◌<◌, Bool, true, false, true≢false, List, [], ◌∷◌, length, get_or, max, Option, Some, refl, sym, ap, ◌∙◌, subst, arith, eq-eqb, eqb-true, append-nil}
use Rattle.std.specs.Prelude.{IsTrue, nat_eq, if◌then◌else◌, slice_get, is_some}
use Rattle.std.specs.List.{AllByRecursion, IsDistinct}
use Rattle.std.specs.Str.{bytes_eq}
use Rattle.std.proofs.lemmas.List.{length-map}
use Rattle.std.proofs.lemmas.Option.{same_Some}
use Rattle.cmd_tree.specs.declared.tree.Mark.{Mark}
use Rattle.cmd_tree.specs.declared.tree.Proc.{Proc}
use Rattle.cmd_tree.specs.declared.limits.TheConstants.{MAX_SYMBOLS, MAX_OPEN_BRACKETS}
use Rattle.cmd_tree.specs.Limits.{marks_of_proc, marks_of_all, places_of_proc, places_of_all, brackets_of_proc, IsProc, IsCommand, IsNumbered}
use Rattle.cmd_tree.specs.Lists.{is_in}
use Rattle.cmd_tree.specs.Residual.{without}
use Rattle.cmd_rename.specs.Renaming.{ren_proc}
use Rattle.cmd_rename.specs.Symbols.{symbols_in, symbols_of, rank, renumbered}
use Rattle.cmd_rename.specs.Table.{number_by}
use Rattle.cmd_rename.proofs.Laws.{Agree, ren_agree, proc_kept, body_kept, proc_brackets, ren_places}
use Rattle.cmd_rename.proofs.Orders.{in_each}
use Rattle.cmd_rename.proofs.Numbering.{renumbered_numbered, symbols_distinct, all_each}
use Rattle.place_graph.proofs.LegBounds.{all_front, all_back}
use Rattle.cmd_rename.specs.Symbols.{names_in}
use Rattle.cmd_rename.proofs.SymbolNames.{names_distinct, names_formed}

-- ---- the process at a place
pub got : (P : Proc → Type 0) (ps : List Proc) (i : ℕ) (p : Proc) → AllByRecursion P ps → slice_get ps i ≡ Some p → P p
got P [] i p h e = absurd (cc)
got P (q ∷ ps) zero p h e = subst P (same_Some q p e) h.0
got P (q ∷ ps) (suc i) p h e = got P ps i p h.1 e

pub got_marks : (P : Mark → Type 0) (ps : List Proc) (i : ℕ) (p : Proc) → AllByRecursion P (marks_of_all ps) → slice_get ps i ≡ Some p → AllByRecursion P (marks_of_proc p)
got_marks P [] i p h e = absurd (cc)
got_marks P (q ∷ ps) zero p h e = subst (λ r. AllByRecursion P (marks_of_proc r)) (same_Some q p e) (all_front P (marks_of_proc q) (marks_of_all ps) h)
got_marks P (q ∷ ps) (suc i) p h e = got_marks P ps i p (all_back P (marks_of_proc q) (marks_of_all ps) h) e

got_places : (ps : List Proc) (i : ℕ) (p : Proc) → slice_get ps i ≡ Some p → places_of_proc p ≤ places_of_all ps
got_places [] i p e = absurd (cc)
got_places (q ∷ ps) zero p e = omega (arith, ap places_of_proc (same_Some q p e))
got_places (q ∷ ps) (suc i) p e = omega (arith, got_places ps i p e)

-- ---- its symbols are below the number of names
numbered_top : (k : ℕ) (ms : List Mark) (n : ℕ) → IsNumbered k ms n → k ≤ n
numbered_top k [] n h = omega (arith, h)
numbered_top k (m ∷ ms) n h = omega (arith, numbered_top (max k (m.sym.0 + 1)) ms n h.1)

pub numbered_below : (k : ℕ) (ms : List Mark) (n : ℕ) → IsNumbered k ms n → AllByRecursion (λ m. m.sym.0 < n) ms
numbered_below k [] n h = tt
numbered_below k (m ∷ ms) n h = (omega (arith, numbered_top (max k (m.sym.0 + 1)) ms n h.1), numbered_below (max k (m.sym.0 + 1)) ms n h.1)

symbols_by : (n : ℕ) (ms : List Mark) → AllByRecursion (λ m. m.sym.0 < n) ms → AllByRecursion (λ a. a < n) (symbols_in ms)
symbols_by n [] h = tt
symbols_by n (m ∷ ms) h = (h.0, symbols_by n ms h.1)

pub symbols_below : (names : List (List ℕ)) (procs : List Proc) (i : ℕ) (p : Proc) → IsCommand names procs → slice_get procs i ≡ Some p → AllByRecursion (λ a. a < length names) (symbols_of (p ∷ []))
symbols_below names procs i p v e =
    let n = length names in
    let marks = got_marks (λ m. m.sym.0 < n) procs i p (numbered_below 0 (marks_of_all procs) n v.numbered) e in
    all_each (λ a. a < n) [] (symbols_in (marks_of_all (p ∷ []))) tt
    (symbols_by n (marks_of_all (p ∷ [])) (subst (AllByRecursion (λ (m : Mark). m.sym.0 < n)) (sym (append-nil (marks_of_proc p))) marks))

-- ---- so many different numbers below a bound are not more than the bound
without_keeps : (P : ℕ → Type 0) (a : ℕ) (xs : List ℕ) → AllByRecursion P xs → AllByRecursion P (without a xs)
without_keeps P a [] h = tt
without_keeps P a (x ∷ xs) h = by (nat_eq a x) (without_keeps P a xs h.1)
  where
    by : (b : Bool) → AllByRecursion P (without a xs) → AllByRecursion P (if b then xs else x ∷ without a xs)
    by true k = h.1
    by false k = (h.0, k)

without_distinct : (a : ℕ) (xs : List ℕ) → IsDistinct nat_eq xs → IsDistinct nat_eq (without a xs)
unfolding IsDistinct
without_distinct a [] h = tt
without_distinct a (x ∷ xs) h = by (nat_eq a x) (without_keeps (λ y. nat_eq x y ≡ false) a xs h.0, without_distinct a xs h.1)
  where
    by : (b : Bool) → IsDistinct nat_eq (x ∷ without a xs) → IsDistinct nat_eq (if b then xs else x ∷ without a xs)
    by true k = h.1
    by false k = k

without_length : (a : ℕ) (xs : List ℕ) → length xs ≤ suc (length (without a xs))
without_length a [] = omega arith
without_length a (x ∷ xs) = by (nat_eq a x) (without_length a xs)
  where
    by : (b : Bool) → length xs ≤ suc (length (without a xs)) → length (x ∷ xs) ≤ suc (length (if b then xs else x ∷ without a xs))
    by true k = omega arith
    by false k = omega (arith, k)

without_apart : (a : ℕ) (xs : List ℕ) → IsDistinct nat_eq xs → AllByRecursion (λ y. a ≢ y) (without a xs)
unfolding IsDistinct
without_apart a [] h = tt
without_apart a (x ∷ xs) h = by (nat_eq a x) refl (without_apart a xs h.1)
  where
    others : (ys : List ℕ) → a ≡ x → AllByRecursion (λ y. nat_eq x y ≡ false) ys → AllByRecursion (λ y. a ≢ y) ys
    others [] e k = tt
    others (y ∷ ys) e k = (λ q. true≢false (sym (eq-eqb x y (sym e ∙ q)) ∙ k.0), others ys e k.1)

    by : (b : Bool) → nat_eq a x ≡ b → AllByRecursion (λ y. a ≢ y) (without a xs) → AllByRecursion (λ y. a ≢ y) (if b then xs else x ∷ without a xs)
    by true e k = others xs (eqb-true a x e) h.0
    by false e k = (λ q. true≢false (sym (eq-eqb a x q) ∙ e), k)

lower : (n : ℕ) (xs : List ℕ) → AllByRecursion (λ y. n ≢ y) xs → AllByRecursion (λ a. a < suc n) xs → AllByRecursion (λ a. a < n) xs
lower n [] d h = tt
lower n (x ∷ xs) d h = (let q : n ≢ x = d.0 in omega (arith, q, h.0), lower n xs d.1 h.1)

pub few_below : (n : ℕ) (xs : List ℕ) → IsDistinct nat_eq xs → AllByRecursion (λ a. a < n) xs → length xs ≤ n
few_below zero [] d h = omega arith
few_below zero (x ∷ xs) d h = absurd (omega (arith, h.0))
few_below (suc n) xs d h =
    let rest = without n xs in
    omega (arith, without_length n xs, few_below n rest (without_distinct n xs d) (lower n rest (without_apart n xs d) (without_keeps (λ a. a < suc n) n xs h)))

-- ---- the command
pub few_symbols : (names : List (List ℕ)) (procs : List Proc) (i : ℕ) (p : Proc) → IsCommand names procs → slice_get procs i ≡ Some p → length (symbols_of (p ∷ [])) ≤ MAX_SYMBOLS
few_symbols names procs i p v e = omega (arith, v.few_symbols, few_below (length names) (symbols_of (p ∷ [])) (symbols_distinct (p ∷ [])) (symbols_below names procs i p v e))

pub names_apart : (names : List (List ℕ)) (procs : List Proc) (i : ℕ) (p : Proc) → IsCommand names procs → slice_get procs i ≡ Some p → IsDistinct bytes_eq (names_in names (symbols_of (p ∷ [])))
names_apart names procs i p v e = names_distinct names (symbols_of (p ∷ [])) v.distinct (symbols_below names procs i p v e) (symbols_distinct (p ∷ []))

pub valid : (names : List (List ℕ)) (procs : List Proc) (i : ℕ) (p : Proc) → IsCommand names procs → slice_get procs i ≡ Some p → IsCommand (names_in names (symbols_of (p ∷ []))) (renumbered (p ∷ []))
valid names procs i p v e =
    let xs = symbols_of (p ∷ []) in
    let f = rank xs in
    let many : length (names_in names xs) ≡ length xs = length-map xs (λ a. get_or names a []) in
    record {
      some = omega arith;
      shaped = (proc_kept f p (got IsProc procs i p v.shaped e), tt);
      bodied = (body_kept f p (got (λ p. IsTrue (is_some p.body)) procs i p v.bodied e), tt);
      numbered = subst (λ n. IsNumbered 0 (marks_of_all (renumbered (p ∷ []))) n) (sym many) (renumbered_numbered (p ∷ []));
      distinct = names_apart names procs i p v e;
      formed = names_formed names xs v.formed (symbols_below names procs i p v e);
      few_brackets = (subst (λ k. k ≤ MAX_OPEN_BRACKETS) (sym (proc_brackets f p)) (got (λ p. brackets_of_proc p ≤ MAX_OPEN_BRACKETS) procs i p v.few_brackets e), tt);
      few_symbols = subst (λ n. n ≤ MAX_SYMBOLS) (sym many) (few_symbols names procs i p v e);
      few_procs = omega arith;
      few_places = omega (arith, ren_places f (p ∷ []), got_places procs i p e, v.few_places);
    }

-- a table with the ranks of the symbols renumbers
pub by_ranks : (t : List (Option ℕ)) (p : Proc) (xs : List ℕ) → xs ≡ symbols_of (p ∷ []) → ((a : ℕ) → IsTrue (is_in a xs) → number_by t a ≡ rank xs a) → ren_proc (number_by t) p ∷ [] ≡ renumbered (p ∷ [])
by_ranks t p xs e h = ren_agree (number_by t) (rank (symbols_of (p ∷ []))) (p ∷ []) agree
  where
    agree : Agree (number_by t) (rank (symbols_of (p ∷ []))) (symbols_in (marks_of_all (p ∷ [])))
    agree a i = h a (subst (λ ys. IsTrue (is_in a ys)) (sym e) (in_each [] (symbols_in (marks_of_all (p ∷ []))) a i)) ∙ ap (λ ys. rank ys a) e
