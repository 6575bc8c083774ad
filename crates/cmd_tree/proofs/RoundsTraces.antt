-- The traces of a process in rounds, by counts.
use Rattle.std.proofs.Common.{◌≡◌, inl, inr, ◌↔◌, ℕ, ◌<◌, Bool, true, false, cond, ◌||◌, List, [], ◌∷◌, ◌++◌, length, map, nat_eq, IsTrue, refl, sym, ap, ◌∙◌, subst, arith, append-nil, filter}
use Rattle.std.specs.List.{AllByRecursion}
use Rattle.std.proofs.lemmas.List.Folds.{list_any-append}
use Rattle.cmd_tree.specs.declared.tree.Mark.{Mark}
use Rattle.cmd_tree.specs.Limits.{IsProc, marks_of_proc, marks_of_all}
use Rattle.cmd_tree.specs.Meaning.{symbols, TraceOf, Trace, has_symbol}
use Rattle.cmd_tree.specs.Lists.{is_in}
use Rattle.cmd_tree.specs.Residual.{start}
use Rattle.cmd_tree.specs.Rounds.{counts, Follows}
use Rattle.cmd_tree.specs.RoundsProc.{rounds_of, MayCome}
use Rattle.cmd_tree.specs.Marks.{input, output}
use Rattle.cmd_tree.proofs.Paths.{trace_runs}
use Rattle.cmd_tree.proofs.Phases.{Once}
use Rattle.cmd_tree.proofs.RoundsSteps.{symbols_input, symbols_output, Stands, follows_from_runs, runs_from_follows}

-- ---- the symbols of the process

symbols_append : (a b : List Mark) → symbols (a ++ b) ≡ symbols a ++ symbols b
symbols_append [] b = refl
symbols_append (m ∷ a) b = ap (λ t. m.sym.0 ∷ t) (symbols_append a b)

symbols_rounds : (ins outs : List ℕ) → symbols (marks_of_proc (rounds_of ins outs)) ≡ ins ++ outs
symbols_rounds ins outs = symbols_append (map input ins) (map output outs ++ []) ∙ ap (λ t. t ++ symbols (map output outs ++ [])) (symbols_input ins) ∙ ap (λ t. ins ++ symbols t) (append-nil (map output outs)) ∙ ap (λ t. ins ++ t) (symbols_output outs)

-- the symbol is of the process exactly where it is an input or an output
is_known : (ins outs : List ℕ) (x : ℕ) → has_symbol (marks_of_proc (rounds_of ins outs)) x ≡ (is_in x ins || is_in x outs)
is_known ins outs x = ap (λ t. is_in x t) (symbols_rounds ins outs) ∙ list_any-append (nat_eq x) ins outs

is_known_all : (ins outs : List ℕ) (x : ℕ) → has_symbol (marks_of_all (rounds_of ins outs ∷ [])) x ≡ has_symbol (marks_of_proc (rounds_of ins outs)) x
is_known_all ins outs x = ap (λ ms. has_symbol ms x) (append-nil (marks_of_proc (rounds_of ins outs)))

-- where each element passes, a filter leaves the list as it is
filter_all : (test : ℕ → Bool) (t : List ℕ) → AllByRecursion (λ x. IsTrue (test x)) t → filter test t ≡ t
filter_all test [] h = refl
filter_all test (x ∷ t) h = ap (λ b. cond b (x ∷ filter test t) (filter test t)) h.0 ∙ ap (λ u. x ∷ u) (filter_all test t h.1)

all_map : (P Q : ℕ → Type 0) → ((x : ℕ) → P x → Q x) → (t : List ℕ) → AllByRecursion P t → AllByRecursion Q t
all_map P Q f [] h = tt
all_map P Q f (x ∷ t) h = (f x h.0, all_map P Q f t h.1)

or_true : (b : Bool) → IsTrue (b || true)
or_true true = refl
or_true false = refl

may_come_known : (ins outs : List ℕ) (c : ℕ → ℕ) (x : ℕ) → MayCome ins outs c x → IsTrue (is_in x ins || is_in x outs)
may_come_known ins outs c x (inl h) = ap (λ b. b || is_in x outs) h.0
may_come_known ins outs c x (inr h) = ap (λ b. is_in x ins || b) h.0 ∙ or_true (is_in x ins)

follows_known : (ins outs : List ℕ) (t u : List ℕ) → Follows (λ v a. MayCome ins outs (counts v) a) u t → AllByRecursion (λ x. IsTrue (is_in x ins || is_in x outs)) t
follows_known ins outs [] u f = tt
follows_known ins outs (a ∷ t) u f = (may_come_known ins outs (counts u) a f.0, follows_known ins outs t (u ++ a ∷ []) f.1)

-- ---- the theorem

module _ (ins outs : List ℕ) (once : Once ins outs) (some_in : 0 < length ins) (some_out : 0 < length outs) where
  rounds_proc : IsProc (rounds_of ins outs)
  rounds_proc = (refl, tt, (positive input ins some_in, (positive output outs some_out, tt)))
    where
      positive : (f : ℕ → Mark) (xs : List ℕ) → 0 < length xs → 0 < length (map f xs)
      positive f [] h = absurd (omega arith)
      positive f (x ∷ xs) h = omega arith

  begins : Stands ins outs (counts []) (start (rounds_of ins outs))
  begins = inr (record { at = refl; round = 0; phase = record { below = λ x. omega arith; coming = λ x h. refl; waiting = λ x h. refl } })

  pub TraceOf-rounds : (t : List ℕ) → TraceOf (rounds_of ins outs) t ↔ Follows (λ u a. MayCome ins outs (counts u) a) [] t
  TraceOf-rounds t = (
    λ k. follows_from_runs ins outs once some_in some_out t [] (start (rounds_of ins outs)) begins ((trace_runs (rounds_of ins outs) rounds_proc t).0 k),
    λ f. (trace_runs (rounds_of ins outs) rounds_proc t).1 (runs_from_follows ins outs once some_in some_out t [] (start (rounds_of ins outs)) begins f),
  )

  pub rounds_traces : (t : List ℕ) → Trace (rounds_of ins outs ∷ []) t ↔ Follows (λ u a. MayCome ins outs (counts u) a) [] t
  rounds_traces t = (forth, back)
    where
      forth : Trace (rounds_of ins outs ∷ []) t → Follows (λ u a. MayCome ins outs (counts u) a) [] t
      forth k =
          let known = all_map (λ x. IsTrue (has_symbol (marks_of_all (rounds_of ins outs ∷ [])) x)) (λ x. IsTrue (has_symbol (marks_of_proc (rounds_of ins outs)) x)) (λ x h. sym (is_known_all ins outs x) ∙ h) t k.known in
          (TraceOf-rounds t).0 (subst (λ u. TraceOf (rounds_of ins outs) u) (filter_all (has_symbol (marks_of_proc (rounds_of ins outs))) t known) k.each.0)

      back : Follows (λ u a. MayCome ins outs (counts u) a) [] t → Trace (rounds_of ins outs ∷ []) t
      back f =
          let known = all_map (λ x. IsTrue (is_in x ins || is_in x outs)) (λ x. IsTrue (has_symbol (marks_of_proc (rounds_of ins outs)) x)) (λ x h. is_known ins outs x ∙ h) t (follows_known ins outs t [] f) in
          record {
            known = all_map (λ x. IsTrue (has_symbol (marks_of_proc (rounds_of ins outs)) x)) (λ x. IsTrue (has_symbol (marks_of_all (rounds_of ins outs ∷ [])) x)) (λ x h. is_known_all ins outs x ∙ h) t known;
            each = (subst (λ u. TraceOf (rounds_of ins outs) u) (sym (filter_all (has_symbol (marks_of_proc (rounds_of ins outs))) t known)) ((TraceOf-rounds t).1 f), tt);
          }
