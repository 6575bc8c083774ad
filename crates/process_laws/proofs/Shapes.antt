-- A fair process gives what is asked of the bursts that come next.
use Rattle.std.proofs.Common.{◌≡◌, ⊎_elim, ℕ, Bool, true, false, true≢false, not, List, [], ◌∷◌, ◌++◌, IsTrue, Option, Some, None, refl, sym, ap, ◌∙◌, subst, arith}
use Rattle.cmd_tree.specs.declared.tree.Mark.{Mark}
use Rattle.cmd_tree.specs.declared.tree.Proc.{Proc}
use Rattle.cmd_tree.specs.Tree.{TItem, TSeq, TSeqs, TBurst, TAlt, Stop, Or, Done, Then}
use Rattle.cmd_tree.specs.Limits.{IsProc}
use Rattle.cmd_tree.specs.Meaning.{symbols, TraceOf}
use Rattle.cmd_tree.specs.Join.{join}
use Rattle.cmd_tree.specs.Lists.{is_in}
use Rattle.cmd_tree.specs.Residual.{FirstOf, FirstIn, FirstAmong, Next, Runs, lead_of, start}
use Rattle.cmd_tree.proofs.Bursts.{count_is}
use Rattle.cmd_tree.proofs.Paths.{trace_runs}
use Rattle.process_laws.specs.Steady.{Steady}
use Rattle.process_laws.specs.Shape.{IsBurst, Alternates, AlternatesIn, AlternatesAmong, IsApart, IsApartIn, AreApart, sequence_of, IsFair}
use Rattle.process_laws.proofs.Fair.{Fair, Good, fair_steady}

-- ---- directions

join_alternates : (out : ℕ → Bool) (q s : TSeq) (d m e : Bool) → Alternates out d q m → Alternates out m s e
    → Alternates out d (join q s) e
join_alternates out Done s d m e h k = subst (λ x. Alternates out x s e) (sym h) k
join_alternates out (Then i q) s d m e h k = (h.0, h.1, join_alternates out q s h.0 m e h.2 k)

mutual
  first_in : (out : ℕ → Bool) (i : TItem) (d e : Bool) (ms : List Mark) (r : TSeq) → AlternatesIn out d i e
      → FirstIn i ms r → IsBurst out d ms × Alternates out (not d) r e
  first_in out (TBurst bs) d e ms r h f = (subst (IsBurst out d) (sym f.0) h.0, subst (λ q. Alternates out (not d) q e) (sym f.1) (sym h.1))
  first_in out (TAlt ss) d e ms r h f = first_among out ss d e ms r h.1 f

  first_among : (out : ℕ → Bool) (ss : TSeqs) (d e : Bool) (ms : List Mark) (r : TSeq)
      → AlternatesAmong out d ss e → FirstAmong ss ms r → IsBurst out d ms × Alternates out (not d) r e
  first_among out Stop d e ms r h f = absurd f
  first_among out (Or s ss) d e ms r h f = ⊎_elim (λ k. first_of out s d e ms r h.0 k) (λ k. first_among out ss d e ms r h.1 k) f

  first_of : (out : ℕ → Bool) (s : TSeq) (d e : Bool) (ms : List Mark) (r : TSeq) → Alternates out d s e
      → FirstOf s ms r → IsBurst out d ms × Alternates out (not d) r e
  first_of out Done d e ms r h f = absurd f
  first_of out (Then i s) d e ms r h f =
      let k = first_in out i d h.0 ms f.0 h.1 f.1 in
      (k.0, subst (λ q. Alternates out (not d) q e) (sym f.2) (join_alternates out f.0 s (not d) h.0 e k.1 h.2))

-- ---- alternatives are told apart

join_apart : (q s : TSeq) → IsApart q → IsApart s → IsApart (join q s)
join_apart Done s h k = k
join_apart (Then i q) s h k = (h.0, join_apart q s h.1 k)

mutual
  later_in : (i : TItem) (ms : List Mark) (r : TSeq) → IsApartIn i → FirstIn i ms r → IsApart r
  later_in (TBurst bs) ms r h f = subst IsApart (sym f.1) tt
  later_in (TAlt ss) ms r h f = later_among ss ms r h f

  later_among : (ss : TSeqs) (ms : List Mark) (r : TSeq) → AreApart ss → FirstAmong ss ms r → IsApart r
  later_among Stop ms r h f = absurd f
  later_among (Or s ss) ms r h f = ⊎_elim (λ k. later_of s ms r h.0 k) (λ k. later_among ss ms r h.1 k) f

  later_of : (s : TSeq) (ms : List Mark) (r : TSeq) → IsApart s → FirstOf s ms r → IsApart r
  later_of Done ms r h f = absurd f
  later_of (Then i s) ms r h f = subst IsApart (sym f.2) (join_apart f.0 s (later_in i ms f.0 h.0 f.1) h.1)

abbrev Same : List Mark → List Mark → TSeq → TSeq → Type 0
Same ms ns q r = (ms ≡ ns) × (q ≡ r)

mutual
  same_in : (i : TItem) (ms ns : List Mark) (q r : TSeq) → IsApartIn i → FirstIn i ms q → FirstIn i ns r
      → (a : ℕ) → IsTrue (is_in a (symbols ms)) → IsTrue (is_in a (symbols ns)) → Same ms ns q r
  same_in (TBurst bs) ms ns q r h f g a m n = (f.0 ∙ sym g.0, f.1 ∙ sym g.1)
  same_in (TAlt ss) ms ns q r h f g a m n = same_among ss ms ns q r h f g a m n

  same_among : (ss : TSeqs) (ms ns : List Mark) (q r : TSeq) → AreApart ss → FirstAmong ss ms q
      → FirstAmong ss ns r → (a : ℕ) → IsTrue (is_in a (symbols ms)) → IsTrue (is_in a (symbols ns))
      → Same ms ns q r
  same_among Stop ms ns q r h f g a m n = absurd f
  same_among (Or s ss) ms ns q r h f g a m n = ⊎_elim
      (λ k. ⊎_elim (λ l. same_of s ms ns q r h.0 k l a m n) (λ l. absurd (h.2 ms ns q r k l a m n)) g)
      (λ k. ⊎_elim (λ l. absurd (h.2 ns ms r q l k a n m)) (λ l. same_among ss ms ns q r h.1 k l a m n) g)
      f

  same_of : (s : TSeq) (ms ns : List Mark) (q r : TSeq) → IsApart s → FirstOf s ms q → FirstOf s ns r
      → (a : ℕ) → IsTrue (is_in a (symbols ms)) → IsTrue (is_in a (symbols ns)) → Same ms ns q r
  same_of Done ms ns q r h f g a m n = absurd f
  same_of (Then i s) ms ns q r h f g a m n =
      let e = same_in i ms ns f.0 g.0 h.0 f.1 g.1 a m n in
      (e.0, f.2 ∙ ap (λ x. join x s) e.1 ∙ sym g.2)

-- where outputs come there is no choice
sole_in : (out : ℕ → Bool) (i : TItem) (e : Bool) (ms ns : List Mark) (q r : TSeq)
    → AlternatesIn out true i e → FirstIn i ms q → FirstIn i ns r → Same ms ns q r
sole_in out (TBurst bs) e ms ns q r h f g = (f.0 ∙ sym g.0, f.1 ∙ sym g.1)
sole_in out (TAlt ss) e ms ns q r h f g = absurd (true≢false h.0)

sole_of : (out : ℕ → Bool) (s : TSeq) (e : Bool) (ms ns : List Mark) (q r : TSeq) → Alternates out true s e
    → FirstOf s ms q → FirstOf s ns r → Same ms ns q r
sole_of out Done e ms ns q r h f g = absurd f
sole_of out (Then i s) e ms ns q r h f g =
    let same = sole_in out i h.0 ms ns f.0 g.0 h.1 f.1 g.1 in
    (same.0, f.2 ∙ ap (λ x. join x s) same.1 ∙ sym g.2)

-- ---- a process

-- what comes next is a first burst of what is left, or where nothing is left of the body
turn_of : (body : Option TSeq) (r : TSeq) (P : TSeq → Type 0) → P r → (r ≡ Done → P (sequence_of body))
    → (s : TSeq) × P s × ((ms : List Mark) (q : TSeq) → Next body r ms q → FirstOf s ms q)
turn_of None Done P h k = (Done, h, λ ms q n. n)
turn_of (Some b) Done P h k = (b, k refl, λ ms q n. n)
turn_of body (Then i s) P h k = (Then i s, h, λ ms q n. n)

module _ (out : ℕ → Bool) (p : Proc) (fair : IsFair out p) where
  abbrev Ahead : Bool → TSeq → Type 0
  Ahead d r = Alternates out d r fair.turn × IsApart r

  next_of : (d : Bool) (r : TSeq) → Ahead d r
      → (s : TSeq) × Ahead d s × ((ms : List Mark) (q : TSeq) → Next p.body r ms q → FirstOf s ms q)
  next_of d r h = turn_of p.body r (Ahead d) h (λ e.
      let same : d ≡ fair.turn = subst (λ x. Alternates out d x fair.turn) e h.0 in
      (subst (λ x. Alternates out x (sequence_of p.body) fair.turn) (sym same) fair.body, fair.body_apart))

  shape_fair : Fair p.body out Ahead
  shape_fair = record {
    dirs = λ d r ms q h n. let s = next_of d r h in (first_of out s.0 d fair.turn ms q s.1.0 (s.2 ms q n)).0.one_way;
    differ = λ d r ms q h n a. let s = next_of d r h in omega (arith, count_is a (symbols ms), (first_of out s.0 d fair.turn ms q s.1.0 (s.2 ms q n)).0.differ a);
    turns = λ d r ms q h n. let s = next_of d r h in ((first_of out s.0 d fair.turn ms q s.1.0 (s.2 ms q n)).1, later_of s.0 ms q s.1.1 (s.2 ms q n));
    apart = λ d r ms ns q t h n m a i j. let s = next_of d r h in same_of s.0 ms ns q t s.1.1 (s.2 ms q n) (s.2 ns t m) a i j;
    sole = λ r ms ns q t h n m. let s = next_of true r h in sole_of out s.0 fair.turn ms ns q t s.1.0 (s.2 ms q n) (s.2 ns t m);
  }

-- the same sets of traces are steady
steady_by : (S T : List ℕ → Type 0) (out : ℕ → Bool) → ((t : List ℕ) → S t → T t)
    → ((t : List ℕ) → T t → S t) → Steady S out → Steady T out
steady_by S T out there back s = record {
  empty = there [] s.empty;
  prefix = λ t u r. there t (s.prefix t u (back (t ++ u) r));
  one_way = λ t a b m n. s.one_way t a b (back (t ++ a ∷ []) m) (back (t ++ b ∷ []) n);
  once = λ t u way r all a. s.once t u way (back (t ++ u) r) all a;
  swaps = λ t u a b same r. there (t ++ b ∷ a ∷ u) (s.swaps t u a b same (back (t ++ a ∷ b ∷ u) r));
  stays = λ t u a up m r all fresh. there (t ++ (u ++ a ∷ [])) (s.stays t u a up (back (t ++ a ∷ []) m) (back (t ++ u) r) all fresh);
}

lead_same : (l : Option TSeq) → lead_of l ≡ sequence_of l
lead_same None = refl
lead_same (Some s) = refl

not_not : (d : Bool) → d ≡ not (not d)
not_not true = refl
not_not false = refl

pub process_steady : (out : ℕ → Bool) (p : Proc) → IsProc p → IsFair out p → Steady (TraceOf p) out
process_steady out p h fair =
    let begin : Ahead out p fair fair.first (lead_of p.lead) = subst (Ahead out p fair fair.first) (sym (lead_same p.lead)) (fair.lead, fair.lead_apart) in
    let good : Good p.body out (Ahead out p fair) (shape_fair out p fair) (not fair.first) (start p) = record {
      next = subst (λ d. Ahead out p fair d (lead_of p.lead)) (not_not fair.first) begin;
      way = λ a none. absurd (true≢false (sym none));
      few = λ a. omega arith;
    } in
    let s = fair_steady p.body out (Ahead out p fair) (shape_fair out p fair) (not fair.first) (start p) good in
    steady_by (λ t. Runs p.body (start p) t) (TraceOf p) out (λ t. (trace_runs p h t).1) (λ t. (trace_runs p h t).0) s
