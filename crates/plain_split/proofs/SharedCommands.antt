-- Commands of one process: their symbols and their traces.
use Rattle.std.proofs.Common.{◌≡◌, ◌↔◌, ◌⊎◌, inl, inr, ⊎_elim, ℕ, ◌+◌, ◌<◌, ◌≤◌, max, Bool, true, false, true≢false, ◌||◌, nat_eq, IsTrue, List, [], ◌∷◌, ◌++◌, refl, sym, ap, subst, arith, append_assoc, append-nil, eq-eqb, eqb-true}
use Rattle.std.proofs.lemmas.Bool.{cases_eq}
use Rattle.cmd_tree.specs.declared.tree.Mark.{Mark}
use Rattle.cmd_tree.specs.declared.tree.Proc.{Proc}
use Rattle.cmd_tree.specs.Limits.{IsNumbered, marks_of_proc}
use Rattle.cmd_tree.specs.Lists.{is_in}
use Rattle.cmd_tree.specs.Meaning.{symbols, has_symbol, Trace, TraceOf}
use Rattle.cmd_tree.specs.Rounds.{Follows}
use Rattle.basic_kinds.proofs.Machines.{one_process}
use Rattle.place_graph.specs.declared.leg.Leg.{Leg}
use Rattle.place_graph.specs.Points.{Among}
use Rattle.place_graph.specs.Tale.{Tale}
use Rattle.place_graph.specs.Chart.{Has, Plays, Grows}

-- ---- symbols that are numbered by first occurrence

numbered_up : (k : ℕ) (ms : List Mark) (n : ℕ) → IsNumbered k ms n → k ≤ n
numbered_up k [] n h = omega (arith, h)
numbered_up k (m ∷ ms) n h = omega (arith, numbered_up (max k (m.sym.0 + 1)) ms n h.1)

or_both : (a b : Bool) → (a || b) ≡ true → (a ≡ true) ⊎ (b ≡ true)
or_both true b h = inl refl
or_both false b h = inr h

or_later : (a b : Bool) → b ≡ true → (a || b) ≡ true
or_later true b h = refl
or_later false b h = h

numbered_low : (k : ℕ) (ms : List Mark) (n a : ℕ) → IsNumbered k ms n → is_in a (symbols ms) ≡ true → a < n
numbered_low k [] n a h x = absurd (true≢false (sym x))
numbered_low k (m ∷ ms) n a h x = ⊎_elim
    (λ e. omega (arith, numbered_up (max k (m.sym.0 + 1)) ms n h.1, eqb-true a m.sym.0 e))
    (λ e. numbered_low (max k (m.sym.0 + 1)) ms n a h.1 e)
    (or_both (nat_eq a m.sym.0) (is_in a (symbols ms)) x)

numbered_has : (k : ℕ) (ms : List Mark) (n a : ℕ) → IsNumbered k ms n → k ≤ a → a < n → is_in a (symbols ms) ≡ true
numbered_has k [] n a h le low = absurd (omega (arith, h))
numbered_has k (m ∷ ms) n a h le low = elim (cases_eq a m.sym.0) [
  | inl e ↦ ap (λ b. b || is_in a (symbols ms)) (eq-eqb a m.sym.0 e)
  | inr e ↦ or_later (nat_eq a m.sym.0) (is_in a (symbols ms)) (numbered_has (max k (m.sym.0 + 1)) ms n a h.1 (omega (arith, h.0)) low)
]

pub numbered_known : (p : Proc) (n : ℕ) → IsNumbered 0 (marks_of_proc p) n → (a : ℕ) → a < n ↔ IsTrue (has_symbol (marks_of_proc p) a)
numbered_known p n h a = ((λ low. numbered_has 0 (marks_of_proc p) n a h (omega arith) low), (λ x. numbered_low 0 (marks_of_proc p) n a h x))

-- ---- traces

module _ (L : List Leg) (T : List ℕ → Type 0) (plays : Plays L T) (closed : (t u : List ℕ) → T (t ++ u) → T t) where
  tale_of : (u v : List ℕ) → Tale L u → T (u ++ v) → Tale L (u ++ v)
  tale_of u [] w h = subst (Tale L) (sym (append-nil u)) w
  tale_of u (a ∷ v) w h =
      let e : (u ++ a ∷ []) ++ v ≡ u ++ a ∷ v = append_assoc u (a ∷ []) v in
      let n : Grows L u a w = plays.grows u a w (closed (u ++ a ∷ []) v (subst T (sym e) h)) in
      subst (Tale L) e (tale_of (u ++ a ∷ []) v n.next (subst T (sym e) h))

  -- each symbol that comes is of a leg
  pub comes_of_leg : (u : List ℕ) (a : ℕ) → T (u ++ a ∷ []) → (l : Leg) × Among L l × Has l a
  comes_of_leg u a h =
      let n : Grows L u a (tale_of [] u plays.first (closed u (a ∷ []) h)) = plays.grows u a (tale_of [] u plays.first (closed u (a ∷ []) h)) h in
      (n.grown.leg, n.grown.among, n.grown.has)

module _ (T : List ℕ → Type 0) (empty : T []) (closed : (t u : List ℕ) → T (t ++ u) → T t) where
  follows_there : (u t : List ℕ) → T (u ++ t) → Follows (λ v a. T (v ++ a ∷ [])) u t
  follows_there u [] h = tt
  follows_there u (a ∷ t) h =
      let e : (u ++ a ∷ []) ++ t ≡ u ++ a ∷ t = append_assoc u (a ∷ []) t in
      (closed (u ++ a ∷ []) t (subst T (sym e) h), follows_there (u ++ a ∷ []) t (subst T (sym e) h))

  follows_back : (u t : List ℕ) → T u → Follows (λ v a. T (v ++ a ∷ [])) u t → T (u ++ t)
  follows_back u [] h f = subst T (sym (append-nil u)) h
  follows_back u (a ∷ t) h f = subst T (append_assoc u (a ∷ []) t) (follows_back (u ++ a ∷ []) t f.0 f.1)

  pub follows_self : (t : List ℕ) → T t ↔ Follows (λ v a. T (v ++ a ∷ [])) [] t
  follows_self t = ((λ h. follows_there [] t h), (λ f. follows_back [] t empty f))

-- the traces of a command of one process are those of the process
pub one_traces : (p : Proc) → TraceOf p [] → ((t u : List ℕ) → TraceOf p (t ++ u) → TraceOf p t) → ((u : List ℕ) (a : ℕ) → TraceOf p (u ++ a ∷ []) → IsTrue (has_symbol (marks_of_proc p) a))
    → (t : List ℕ) → Trace (p ∷ []) t ↔ TraceOf p t
one_traces p empty closed known t =
    let both = one_process p (λ v a. TraceOf p (v ++ a ∷ [])) known (follows_self (TraceOf p) empty closed) t in
    let own = follows_self (TraceOf p) empty closed t in
    ((λ h. own.1 (both.0 h)), (λ h. both.1 (own.0 h)))
