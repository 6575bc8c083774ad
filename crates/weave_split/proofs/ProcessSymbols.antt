-- Each symbol of a trace of a process stands in the process.
use Rattle.std.proofs.Common.{◌≡◌, inl, ⊎_elim, ℕ, List, [], ◌∷◌, ◌++◌, Option, Some, None, refl, sym, subst, arith}
use Rattle.std.proofs.lemmas.List.{map-append}
use Rattle.cmd_tree.specs.declared.tree.Mark.{Mark}
use Rattle.cmd_tree.specs.declared.tree.Proc.{Proc}
use Rattle.cmd_tree.specs.Tree.{TItem, TSeq, TSeqs, TBurst, TAlt, Stop, Or, Done, Then, marks_of, marks_in, marks_among}
use Rattle.cmd_tree.specs.Limits.{of_part, marks_of_proc}
use Rattle.cmd_tree.specs.Meaning.{symbols, Whole, WholeItem, WholeOne, Star, stop, turn, WholeLead, Turns, WholeProc, TraceOf}
use Rattle.cmd_tree.proofs.Bursts.{perm_counts, is_in_from_count, count_from_is_in}
use Rattle.net_laws.proofs.Among.{Among}
use Rattle.net_laws.proofs.Rows.{among_left, among_right, among_either}
use Rattle.plain_split.proofs.OneWaitDrawn.{among_in, in_among}

-- each symbol of t is one of these marks
abbrev pub Stands : List Mark → List ℕ → Type 0
Stands ms t = (a : ℕ) → Among a t → Among a (symbols ms)

stands_left : (ms ns : List Mark) (t : List ℕ) → Stands ms t → Stands (ms ++ ns) t
stands_left ms ns t h a i = subst (Among a) (sym (map-append (λ (m : Mark). m.sym.0) ms ns)) (among_left a (symbols ms) (symbols ns) (h a i))

stands_right : (ms ns : List Mark) (t : List ℕ) → Stands ns t → Stands (ms ++ ns) t
stands_right ms ns t h a i = subst (Among a) (sym (map-append (λ (m : Mark). m.sym.0) ms ns)) (among_right a (symbols ms) (symbols ns) (h a i))

stands_both : (ms : List Mark) (t u v : List ℕ) → t ≡ u ++ v → Stands ms u → Stands ms v → Stands ms t
stands_both ms t u v e h k a i = ⊎_elim (h a) (k a) (among_either a u v (subst (Among a) e i))

stands_none : (ms : List Mark) (t : List ℕ) → t ≡ [] → Stands ms t
stands_none ms t e a i = absurd (subst (Among a) e i)

mutual
  of_seq : (s : TSeq) (t : List ℕ) → Whole s t → Stands (marks_of s) t
  of_seq Done t h = stands_none [] t h
  of_seq (Then i s) t h = stands_both (marks_in i ++ marks_of s) t h.front h.back h.joins
      (stands_left (marks_in i) (marks_of s) h.front (of_item i h.front h.first))
      (stands_right (marks_in i) (marks_of s) h.back (of_seq s h.back h.second))

  of_item : (i : TItem) (t : List ℕ) → WholeItem i t → Stands (marks_in i) t
  of_item (TBurst ms) t h = λ a i. in_among a (symbols ms) (is_in_from_count a (symbols ms)
      (omega (arith, perm_counts (symbols ms) t h a, count_from_is_in a t (among_in a t i))))
  of_item (TAlt ss) t h = of_one ss t h

  of_one : (ss : TSeqs) (t : List ℕ) → WholeOne ss t → Stands (marks_among ss) t
  of_one Stop t h = absurd h
  of_one (Or s ss) t h = ⊎_elim
      (λ k. stands_left (marks_of s) (marks_among ss) t (of_seq s t k))
      (λ k. stands_right (marks_of s) (marks_among ss) t (of_one ss t k))
      h

of_lead : (o : Option TSeq) (t : List ℕ) → WholeLead o t → Stands (of_part [] marks_of o) t
of_lead None t h = stands_none [] t h
of_lead (Some s) t h = of_seq s t h

of_star : (s : TSeq) (t : List ℕ) → Star (Whole s) t → Stands (marks_of s) t
of_star s _ stop = λ a i. absurd i
of_star s _ (turn t u v e some first more) = stands_both (marks_of s) t u v e (of_seq s u first) (of_star s v more)

of_turns : (o : Option TSeq) (t : List ℕ) → Turns o t → Stands (of_part [] marks_of o) t
of_turns None t h = stands_none [] t h
of_turns (Some s) t h = of_star s t h

of_whole : (p : Proc) (t : List ℕ) → WholeProc p t → Stands (marks_of_proc p) t
of_whole p t h =
    let lead = of_part [] marks_of p.lead in
    let body = of_part [] marks_of p.body in
    stands_both (marks_of_proc p) t h.front h.back h.joins
    (stands_left lead body h.front (of_lead p.lead h.front h.first))
    (stands_right lead body h.back (of_turns p.body h.back h.second))

pub symbol_stands : (p : Proc) (t : List ℕ) (a : ℕ) → TraceOf p (t ++ a ∷ []) → Among a (symbols (marks_of_proc p))
symbol_stands p t a h = of_whole p ((t ++ a ∷ []) ++ h.0) h.1 a
    (among_left a (t ++ a ∷ []) h.0 (among_right a t (a ∷ []) (inl refl)))
