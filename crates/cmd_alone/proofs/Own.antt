-- The symbols of a process, and its traces by their numbers.
use Rattle.std.proofs.Common.{◌≡◌, ℕ, ◌<◌, Bool, true, false, cond, ◌||◌, List, [], ◌∷◌, map, length, filter, refl, sym, ap, ◌∙◌, subst, eqb-true, eq-eqb, append-nil}
use Rattle.std.specs.Prelude.{◌↔◌, IsTrue, nat_eq}
use Rattle.std.specs.List.{AllByRecursion}
use Rattle.cmd_tree.specs.declared.tree.Proc.{Proc}
use Rattle.cmd_tree.specs.Limits.{marks_of_proc, marks_of_all}
use Rattle.cmd_tree.specs.Lists.{is_in}
use Rattle.cmd_tree.specs.Meaning.{symbols, TraceOf, has_symbol, project, Trace}
use Rattle.cmd_rename.specs.Symbols.{symbols_in, renumbered}
use Rattle.cmd_rename.proofs.Numbering.{all_each}
use Rattle.cmd_alone.specs.Alone.{own_symbols, number_in, symbol_at}
use Rattle.cmd_alone.proofs.Ranks.{or_second, got_rank, rank_below}
use Rattle.cmd_alone.proofs.Back.{own_in}
use Rattle.cmd_alone.proofs.Traces.{alone_traces}

-- ---- they are the symbols that stand in it
all_at : (P : ℕ → Type 0) (xs : List ℕ) (a : ℕ) → AllByRecursion P xs → IsTrue (is_in a xs) → P a
all_at P [] a h i = absurd (cc)
all_at P (x ∷ xs) a h i = by (nat_eq a x) refl i (λ j. all_at P xs a h.1 j)
  where
    by : (b : Bool) → nat_eq a x ≡ b → IsTrue (b || is_in a xs) → (IsTrue (is_in a xs) → P a) → P a
    by true e j f = subst P (sym (eqb-true a x e)) h.0
    by false e j f = f j

all_of : (P : ℕ → Type 0) (xs : List ℕ) → ((a : ℕ) → IsTrue (is_in a xs) → P a) → AllByRecursion P xs
all_of P [] f = tt
all_of P (x ∷ xs) f = (f x (ap (λ b. b || is_in x xs) (eq-eqb x x refl)), all_of P xs (λ a i. f a (or_second (nat_eq a x) (is_in a xs) i)))

in_own : (p : Proc) (a : ℕ) → IsTrue (is_in a (own_symbols p)) → IsTrue (is_in a (symbols_in (marks_of_all (p ∷ []))))
in_own p a i =
    let ys = symbols_in (marks_of_all (p ∷ [])) in
    all_at (λ b. IsTrue (is_in b ys)) (own_symbols p) a (all_each (λ b. IsTrue (is_in b ys)) [] ys tt (all_of (λ b. IsTrue (is_in b ys)) ys (λ b j. j))) i

same_test : (b c : Bool) → (IsTrue b → IsTrue c) → (IsTrue c → IsTrue b) → b ≡ c
same_test true true f g = refl
same_test true false f g = sym (f refl)
same_test false true f g = g refl
same_test false false f g = refl

pub own_is : (p : Proc) (a : ℕ) → is_in a (own_symbols p) ≡ has_symbol (marks_of_proc p) a
own_is p a = same_test (is_in a (own_symbols p)) (is_in a (symbols (marks_of_all (p ∷ [])))) (in_own p a) (own_in p a) ∙ ap (λ ms. is_in a (symbols ms)) (append-nil (marks_of_proc p))

-- ---- traces of the process, by number
abbrev Has : Proc → ℕ → Type 0
Has p a = IsTrue (has_symbol (marks_of_proc p) a)

there : (p : Proc) (u : List ℕ) → AllByRecursion (Has p) u → AllByRecursion (λ k. k < length (own_symbols p)) (map (number_in p) u)
there p [] h = tt
there p (a ∷ u) h = (rank_below (own_symbols p) a (own_is p a ∙ h.0), there p u h.1)

again : (p : Proc) (u : List ℕ) → AllByRecursion (Has p) u → map (symbol_at p) (map (number_in p) u) ≡ u
again p [] h = refl
again p (a ∷ u) h = λ j. got_rank (own_symbols p) a (own_is p a ∙ h.0) j ∷ again p u h.1 j

pub traces_by_number : (p : Proc) (u : List ℕ) → AllByRecursion (Has p) u → TraceOf p u ↔ Trace (renumbered (p ∷ [])) (map (number_in p) u)
traces_by_number p u h = (
  λ k. (alone_traces p (map (number_in p) u)).1 (there p u h, subst (TraceOf p) (sym (again p u h)) k),
  λ k. subst (TraceOf p) (again p u h) ((alone_traces p (map (number_in p) u)).0 k).1,
)

passes : (test : ℕ → Bool) (t : List ℕ) → AllByRecursion (λ x. IsTrue (test x)) (filter test t)
passes test [] = tt
passes test (x ∷ t) = by (test x) refl (passes test t)
  where
    by : (b : Bool) → test x ≡ b → AllByRecursion (λ y. IsTrue (test y)) (filter test t) → AllByRecursion (λ y. IsTrue (test y)) (cond b (x ∷ filter test t) (filter test t))
    by true e h = (e, h)
    by false e h = h

all_each_way : (P Q : Proc → Type 0) (ps : List Proc) → ((p : Proc) → P p ↔ Q p) → AllByRecursion P ps ↔ AllByRecursion Q ps
all_each_way P Q [] f = (λ h. h, λ h. h)
all_each_way P Q (p ∷ ps) f = (λ h. ((f p).0 h.0, (all_each_way P Q ps f).0 h.1), λ h. ((f p).1 h.0, (all_each_way P Q ps f).1 h.1))

-- a command has the traces that its processes by themselves have, each at its symbols
pub woven_alone : (ps : List Proc) (t : List ℕ) → Trace ps t ↔ (AllByRecursion (λ x. IsTrue (has_symbol (marks_of_all ps) x)) t
    × AllByRecursion (λ p. Trace (renumbered (p ∷ [])) (map (number_in p) (project p t))) ps)
woven_alone ps t =
    let ways = all_each_way (λ p. TraceOf p (project p t)) (λ p. Trace (renumbered (p ∷ [])) (map (number_in p) (project p t))) ps
    (λ p. traces_by_number p (project p t) (passes (has_symbol (marks_of_proc p)) t)) in
    (λ h. (h.known, ways.0 h.each), λ h. record { known = h.0; each = ways.1 h.1 })
