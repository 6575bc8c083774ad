-- The tokens of a written process are taken by the machine, which builds it.
use Rattle.std.proofs.Common.{◌≡◌, ℕ, ◌<◌, List, [], ◌∷◌, ◌++◌, length, Option, Some, None, refl, sym, ◌∙◌, ap, arith}
use Rattle.std.specs.Option.{option_and_then}
use Rattle.cmd_tree.specs.declared.tree.Dir.{Dir}
use Rattle.cmd_tree.specs.declared.tree.Dir.TheVariants.{Input, Output}
use Rattle.cmd_tree.specs.declared.tree.Mark.{Mark}
use Rattle.cmd_tree.specs.Tree.{TItem, TSeq, TSeqs, TBurst, TAlt, Stop, Or, Done, Then}
use Rattle.cmd_tree.specs.Limits.{IsSeq, IsItem, AreSeqs, IsFull, IsPart, count_of}
use Rattle.cmd_text.specs.Token.{Token, Semi, Bar, Close, LeftSq, RightSq, Star, Word}
use Rattle.cmd_text.specs.Process.{sign_of, more_marks, burst, seq, more, item, among, more_among, process, Written, IsWritten}
use Rattle.cmd_text.specs.Mirror.Machine.{Ctx, InBody, InLead, Inside, State, AtForm, AtItem, AfterItem, AtBurst, AfterBurst, AtSecond, Closed, add, add_among, mark_of, next_choice, step}

-- ---- trees by adding at the end
abbrev pub join : TSeq → TSeq → TSeq
join i Done = i
join i (Then x s) = join (add i x) s

abbrev join_among : TSeqs → TSeqs → TSeqs
join_among a Stop = a
join_among a (Or s ss) = join_among (add_among a s) ss

abbrev plus : TSeq → TSeq → TSeq
plus Done s = s
plus (Then x i) s = Then x (plus i s)

plus-done : (i : TSeq) → plus i Done ≡ i
plus-done Done = refl
plus-done (Then x i) = ap (λ u. Then x u) (plus-done i)

plus-add : (i : TSeq) (x : TItem) (s : TSeq) → plus (add i x) s ≡ plus i (Then x s)
plus-add Done x s = refl
plus-add (Then y i) x s = ap (λ u. Then y u) (plus-add i x s)

join-plus : (i s : TSeq) → join i s ≡ plus i s
join-plus i Done = sym (plus-done i)
join-plus i (Then x s) = join-plus (add i x) s ∙ plus-add i x s

join-done : (s : TSeq) → join Done s ≡ s
join-done s = join-plus Done s

abbrev plus_among : TSeqs → TSeqs → TSeqs
plus_among Stop s = s
plus_among (Or x i) s = Or x (plus_among i s)

plus_among-stop : (i : TSeqs) → plus_among i Stop ≡ i
plus_among-stop Stop = refl
plus_among-stop (Or x i) = ap (λ u. Or x u) (plus_among-stop i)

plus_among-add : (i : TSeqs) (x : TSeq) (s : TSeqs) → plus_among (add_among i x) s ≡ plus_among i (Or x s)
plus_among-add Stop x s = refl
plus_among-add (Or y i) x s = ap (λ u. Or y u) (plus_among-add i x s)

join_among-plus : (i s : TSeqs) → join_among i s ≡ plus_among i s
join_among-plus i Stop = sym (plus_among-stop i)
join_among-plus i (Or x s) = join_among-plus (add_among i x) s ∙ plus_among-add i x s

push-marks : (ns : List Mark) (m : Mark) (ms : List Mark) → (ns ++ m ∷ []) ++ ms ≡ ns ++ m ∷ ms
push-marks [] m ms = refl
push-marks (n ∷ ns) m ms = ap (λ u. n ∷ u) (push-marks ns m ms)

marks-nil : (ns : List Mark) → ns ++ [] ≡ ns
marks-nil [] = refl
marks-nil (n ∷ ns) = ap (λ u. n ∷ u) (marks-nil ns)

module _ (number : List ℕ → ℕ) where
  abbrev pub run : State → List Token → Option State
  run s [] = Some s
  run s (x ∷ xs) = option_and_then (λ t. run t xs) (step number s x)

  -- where the machine is after the alternatives
  abbrev last_choice : Ctx → TSeqs → TSeq → TSeqs → State
  last_choice k a i Stop = AfterItem k a i
  last_choice k a i (Or s ss) = last_choice k (add_among a i) s ss

  module _ (name : ℕ → List ℕ) (known : (i : ℕ) → number (name i) ≡ i) where
    abbrev Goes : Ctx → Type 0
    Goes k = (a : TSeqs) (i : TSeq) → next_choice k a i ≡ Some (AtItem k (add_among a i) Done)

    mark_by : (k : Ctx) (a : TSeqs) (i : TSeq) (n : ℕ) (d : Dir) (r : List Token) → run (AtItem k a i) (Word (name n) ∷ sign_of d ∷ r) ≡ run (AfterItem k a (add i (TBurst (mark_of n d ∷ [])))) r
    mark_by k a i n Input r = ap (λ u. run (AfterItem k a (add i (TBurst (mark_of u Input ∷ [])))) r) (known n)
    mark_by k a i n Output r = ap (λ u. run (AfterItem k a (add i (TBurst (mark_of u Output ∷ [])))) r) (known n)

    in_burst_by : (k : Ctx) (a : TSeqs) (i : TSeq) (ms : List Mark) (n : ℕ) (d : Dir) (r : List Token) → run (AtBurst k a i ms) (Word (name n) ∷ sign_of d ∷ r) ≡ run (AfterBurst k a i (ms ++ mark_of n d ∷ [])) r
    in_burst_by k a i ms n Input r = ap (λ u. run (AfterBurst k a i (ms ++ mark_of u Input ∷ [])) r) (known n)
    in_burst_by k a i ms n Output r = ap (λ u. run (AfterBurst k a i (ms ++ mark_of u Output ∷ [])) r) (known n)

    more_marks_taken : (k : Ctx) (a : TSeqs) (i : TSeq) (ns ms : List Mark) (r : List Token) → run (AfterBurst k a i ns) (more_marks name ms (Close ∷ r)) ≡ run (AfterItem k a (add i (TBurst (ns ++ ms)))) r
    more_marks_taken k a i ns [] r = ap (λ u. run (AfterItem k a (add i (TBurst u))) r) (sym (marks-nil ns))
    more_marks_taken k a i ns (m ∷ ms) r = in_burst_by k a i ns m.sym.0 m.dir (more_marks name ms (Close ∷ r))
        ∙ more_marks_taken k a i (ns ++ m ∷ []) ms r
        ∙ ap (λ u. run (AfterItem k a (add i (TBurst u))) r) (push-marks ns m ms)

    burst_taken : (k : Ctx) (a : TSeqs) (i : TSeq) (ms : List Mark) (r : List Token) → 0 < length ms → run (AtItem k a i) (burst name ms r) ≡ run (AfterItem k a (add i (TBurst ms))) r
    burst_taken k a i [] r h = absurd (omega arith)
    burst_taken k a i (m ∷ []) r h = mark_by k a i m.sym.0 m.dir r
    burst_taken k a i (m ∷ n ∷ ms) r h = mark_by (Inside k a i) Stop Done m.sym.0 m.dir (more_marks name (n ∷ ms) (Close ∷ r))
        ∙ in_burst_by k a i (m ∷ []) n.sym.0 n.dir (more_marks name ms (Close ∷ r))
        ∙ more_marks_taken k a i (m ∷ n ∷ []) ms r

    close_after : (k : Ctx) (b : TSeqs) (j : TSeq) (a : TSeqs) (i : TSeq) (ss : TSeqs) → 0 < count_of a → step number (last_choice (Inside k b j) a i ss) Close ≡ Some (AfterItem k b (add j (TAlt (join_among (add_among a i) ss))))
    close_after k b j Stop i ss h = absurd (omega arith)
    close_after k b j (Or s a) i Stop h = refl
    close_after k b j (Or s a) i (Or t ss) h = close_after k b j (Or s (add_among a i)) t ss (omega arith)

    none_after : (l : TSeqs) (a : TSeqs) (i : TSeq) (ss : TSeqs) → step number (last_choice (InBody None) a i ss) RightSq ≡ Some (Closed (record { lead = None; body = join_among (add_among a i) ss }))
    none_after l a i Stop = refl
    none_after l a i (Or t ss) = none_after l (add_among a i) t ss

    lead_after : (l : TSeq) (a : TSeqs) (i : TSeq) (ss : TSeqs) → step number (last_choice (InBody (Some l)) a i ss) RightSq ≡ Some (AtSecond l (join_among (add_among a i) ss))
    lead_after l a i Stop = refl
    lead_after l a i (Or t ss) = lead_after l (add_among a i) t ss

    run_step : (s : State) (x : Token) (t : State) (r : List Token) → step number s x ≡ Some t → run s (x ∷ r) ≡ run t r
    run_step s x t r e = ap (λ o. option_and_then (λ t. run t r) o) e

    mutual
      item_taken : (k : Ctx) (a : TSeqs) (i : TSeq) (x : TItem) (r : List Token) → IsItem x → run (AtItem k a i) (item name x r) ≡ run (AfterItem k a (add i x)) r
      item_taken k a i (TBurst ms) r h = burst_taken k a i ms r h
      item_taken k a i (TAlt Stop) r h = absurd (omega (arith, h.0))
      item_taken k a i (TAlt (Or s Stop)) r h = absurd (omega (arith, h.0))
      item_taken k a i (TAlt (Or s (Or t ss))) r h = seq_taken (Inside k a i) Stop Done s (more_among name (Or t ss) (Close ∷ r)) h.1.0
          ∙ ap (λ u. run (AfterItem (Inside k a i) Stop u) (more_among name (Or t ss) (Close ∷ r))) (join-done s)
          ∙ among_taken (Inside k a i) (λ b j. refl) Stop s (Or t ss) (Close ∷ r) h.1.1
          ∙ run_step (last_choice (Inside k a i) Stop s (Or t ss)) Close (AfterItem k a (add i (TAlt (join_among (Or s Stop) (Or t ss))))) r (close_after k a i (Or s Stop) t ss (omega arith))
          ∙ ap (λ u. run (AfterItem k a (add i (TAlt u))) r) (join_among-plus (Or s Stop) (Or t ss))

      pub seq_taken : (k : Ctx) (a : TSeqs) (i : TSeq) (s : TSeq) (r : List Token) → IsFull s → run (AtItem k a i) (seq name s r) ≡ run (AfterItem k a (join i s)) r
      seq_taken k a i Done r h = absurd h
      seq_taken k a i (Then x s) r h = item_taken k a i x (more name s r) h.0 ∙ more_taken k a (add i x) s r h.1

      more_taken : (k : Ctx) (a : TSeqs) (i : TSeq) (s : TSeq) (r : List Token) → IsSeq s → run (AfterItem k a i) (more name s r) ≡ run (AfterItem k a (join i s)) r
      more_taken k a i Done r h = refl
      more_taken k a i (Then x s) r h = item_taken k a i x (more name s r) h.0 ∙ more_taken k a (add i x) s r h.1

      among_taken : (k : Ctx) → Goes k → (a : TSeqs) (i : TSeq) (ss : TSeqs) (r : List Token) → AreSeqs ss → run (AfterItem k a i) (more_among name ss r) ≡ run (last_choice k a i ss) r
      among_taken k g a i Stop r h = refl
      among_taken k g a i (Or s ss) r h = run_step (AfterItem k a i) Bar (AtItem k (add_among a i) Done) (seq name s (more_among name ss r)) (g a i)
          ∙ seq_taken k (add_among a i) Done s (more_among name ss r) h.0
          ∙ ap (λ u. run (AfterItem k (add_among a i) u) (more_among name ss r)) (join-done s)
          ∙ among_taken k g (add_among a i) s ss r h.1

    pub process_taken : (w : Written) (r : List Token) → IsWritten w → run AtForm (process name w.lead w.body r) ≡ run (Closed w) r
    process_taken w r h = by w.lead w.body h.lead h.some h.body
      where
        by : (l : Option TSeq) (b : TSeqs) → IsPart l → 0 < count_of b → AreSeqs b → run AtForm (process name l b r) ≡ run (Closed (record { lead = l; body = b })) r
        by l Stop p z g = absurd (omega arith)
        by None (Or s ss) p z g = seq_taken (InBody None) Stop Done s (more_among name ss (RightSq ∷ r)) g.0
            ∙ ap (λ u. run (AfterItem (InBody None) Stop u) (more_among name ss (RightSq ∷ r))) (join-done s)
            ∙ among_taken (InBody None) (λ b j. refl) Stop s ss (RightSq ∷ r) g.1
            ∙ run_step (last_choice (InBody None) Stop s ss) RightSq (Closed (record { lead = None; body = join_among (Or s Stop) ss })) r (none_after Stop Stop s ss)
            ∙ ap (λ u. run (Closed (record { lead = None; body = u })) r) (join_among-plus (Or s Stop) ss)
        by (Some Done) (Or s ss) p z g = absurd p
        by (Some (Then x l)) (Or s ss) p z g = seq_taken InLead Stop Done (Then x l) (Semi ∷ Star ∷ LeftSq ∷ among name (Or s ss) (RightSq ∷ RightSq ∷ r)) p
            ∙ ap (λ u. run (AfterItem InLead Stop u) (Semi ∷ Star ∷ LeftSq ∷ among name (Or s ss) (RightSq ∷ RightSq ∷ r))) (join-done (Then x l))
            ∙ seq_taken (InBody (Some (Then x l))) Stop Done s (more_among name ss (RightSq ∷ RightSq ∷ r)) g.0
            ∙ ap (λ u. run (AfterItem (InBody (Some (Then x l))) Stop u) (more_among name ss (RightSq ∷ RightSq ∷ r))) (join-done s)
            ∙ among_taken (InBody (Some (Then x l))) (λ b j. refl) Stop s ss (RightSq ∷ RightSq ∷ r) g.1
            ∙ run_step (last_choice (InBody (Some (Then x l))) Stop s ss) RightSq (AtSecond (Then x l) (join_among (Or s Stop) ss)) (RightSq ∷ r) (lead_after (Then x l) Stop s ss)
            ∙ ap (λ u. run (Closed (record { lead = Some (Then x l); body = u })) r) (join_among-plus (Or s Stop) ss)
