-- The traces of a process under other symbols, and by itself.
use Rattle.std.proofs.Common.{◌≡◌, inl, inr, ℕ, ◌<◌, Bool, cond, List, [], ◌∷◌, ◌++◌, map, length, filter, Option, Some, None, refl, sym, ap, ◌∙◌, subst, append-nil, IsPermutation}
use Rattle.std.specs.Prelude.{◌↔◌, IsTrue}
use Rattle.std.specs.List.{AllByRecursion}
use Rattle.std.proofs.lemmas.List.{map-append}
use Rattle.std.proofs.lemmas.List.Sorted.{IsPermutation-map}
use Rattle.cmd_tree.specs.declared.tree.Mark.{Mark}
use Rattle.cmd_tree.specs.declared.tree.Proc.{Proc}
use Rattle.cmd_tree.specs.Tree.{TItem, TSeq, TSeqs, TBurst, TAlt, Stop, Or, Done, Then}
use Rattle.cmd_tree.specs.Limits.{marks_of_proc}
use Rattle.cmd_tree.specs.Meaning.{Cut, symbols, Whole, WholeItem, WholeOne, Star, stop, turn, WholeLead, Turns, WholeProc, TraceOf, has_symbol, Trace}
use Rattle.cmd_rename.specs.Renaming.{ren_marks, ren_seq, ren_item, ren_seqs, ren_part, ren_proc}
use Rattle.cmd_rename.specs.Symbols.{rank, renumbered}
use Rattle.cmd_rename.proofs.Numbering.{symbols_distinct}
use Rattle.cmd_alone.specs.Alone.{own_symbols, symbol_at}
use Rattle.cmd_alone.proofs.Ranks.{rank_got}
use Rattle.cmd_alone.proofs.Back.{numbered_alone, back, alone_below, alone_has}

pub symbols_renamed : (f : ℕ → ℕ) (ms : List Mark) → symbols (ren_marks f ms) ≡ map f (symbols ms)
symbols_renamed f [] = refl
symbols_renamed f (m ∷ ms) = ap (λ u. f m.sym.0 ∷ u) (symbols_renamed f ms)

-- ---- what is a trace stays one, with its symbols renamed
cut_renamed : (f : ℕ → ℕ) (A B C D : List ℕ → Type 0) (t : List ℕ) → ((u : List ℕ) → A u → C (map f u)) → ((u : List ℕ) → B u → D (map f u)) → Cut A B t → Cut C D (map f t)
cut_renamed f A B C D t g h c = record {
  front = map f c.front;
  back = map f c.back;
  joins = ap (map f) c.joins ∙ map-append f c.front c.back;
  first = g c.front c.first;
  second = h c.back c.second;
}

mutual
  whole_renamed : (f : ℕ → ℕ) (s : TSeq) (t : List ℕ) → Whole s t → Whole (ren_seq f s) (map f t)
  whole_renamed f Done t h = ap (map f) h
  whole_renamed f (Then i s) t h = cut_renamed f (WholeItem i) (Whole s) (WholeItem (ren_item f i)) (Whole (ren_seq f s)) t (λ u k. item_renamed f i u k) (λ u k. whole_renamed f s u k) h

  item_renamed : (f : ℕ → ℕ) (i : TItem) (t : List ℕ) → WholeItem i t → WholeItem (ren_item f i) (map f t)
  item_renamed f (TBurst ms) t h = subst (λ u. IsPermutation u (map f t)) (sym (symbols_renamed f ms)) (IsPermutation-map f (symbols ms) t h)
  item_renamed f (TAlt ss) t h = one_renamed f ss t h

  one_renamed : (f : ℕ → ℕ) (ss : TSeqs) (t : List ℕ) → WholeOne ss t → WholeOne (ren_seqs f ss) (map f t)
  one_renamed f Stop t h = absurd h
  one_renamed f (Or s ss) t h = elim h [ inl k ↦ inl (whole_renamed f s t k) | inr k ↦ inr (one_renamed f ss t k) ]

map_nil : (f : ℕ → ℕ) (u : List ℕ) → map f u ≡ [] → u ≡ []
map_nil f [] e = refl
map_nil f (x ∷ u) e = absurd (cc)

star_renamed : (f : ℕ → ℕ) (A B : List ℕ → Type 0) → ((u : List ℕ) → A u → B (map f u)) → (t : List ℕ) → Star A t → Star B (map f t)
star_renamed f A B g _ stop = stop
star_renamed f A B g _ (turn t u v e n a s) = turn (map f t) (map f u) (map f v) (ap (map f) e ∙ map-append f u v) (λ q. n (map_nil f u q)) (g u a) (star_renamed f A B g v s)

lead_renamed : (f : ℕ → ℕ) (s : Option TSeq) (t : List ℕ) → WholeLead s t → WholeLead (ren_part f s) (map f t)
lead_renamed f None t h = ap (map f) h
lead_renamed f (Some s) t h = whole_renamed f s t h

turns_renamed : (f : ℕ → ℕ) (s : Option TSeq) (t : List ℕ) → Turns s t → Turns (ren_part f s) (map f t)
turns_renamed f None t h = ap (map f) h
turns_renamed f (Some s) t h = star_renamed f (Whole s) (Whole (ren_seq f s)) (whole_renamed f s) t h

proc_renamed : (f : ℕ → ℕ) (p : Proc) (t : List ℕ) → WholeProc p t → WholeProc (ren_proc f p) (map f t)
proc_renamed f p t h = cut_renamed f (WholeLead p.lead) (Turns p.body) (WholeLead (ren_part f p.lead)) (Turns (ren_part f p.body)) t (lead_renamed f p.lead) (turns_renamed f p.body) h

pub trace_renamed : (f : ℕ → ℕ) (p : Proc) (t : List ℕ) → TraceOf p t → TraceOf (ren_proc f p) (map f t)
trace_renamed f p t h = (map f h.0, subst (WholeProc (ren_proc f p)) (map-append f t h.0) (proc_renamed f p (t ++ h.0) h.1))

-- ---- a trace over the symbols of a process is its own projection
filter_all : (test : ℕ → Bool) (t : List ℕ) → AllByRecursion (λ x. IsTrue (test x)) t → filter test t ≡ t
filter_all test [] h = refl
filter_all test (x ∷ t) h = (λ k. cond (h.0 k) (x ∷ filter test t) (filter test t)) ∙ ap (λ u. x ∷ u) (filter_all test t h.1)

all_so : (P Q : ℕ → Type 0) (t : List ℕ) → ((x : ℕ) → P x → Q x) → AllByRecursion P t → AllByRecursion Q t
all_so P Q [] g h = tt
all_so P Q (x ∷ t) g h = (g x h.0, all_so P Q t g h.1)

one_trace : (q : Proc) (t : List ℕ) → Trace (q ∷ []) t ↔ (AllByRecursion (λ x. IsTrue (has_symbol (marks_of_proc q) x)) t × TraceOf q t)
one_trace q t = (
  λ h. let k = subst (λ ms. AllByRecursion (λ x. IsTrue (has_symbol ms x)) t) (append-nil (marks_of_proc q)) h.known in
      (k, subst (TraceOf q) (filter_all (has_symbol (marks_of_proc q)) t k) h.each.0),
  λ h. record {
    known = subst (λ ms. AllByRecursion (λ x. IsTrue (has_symbol ms x)) t) (sym (append-nil (marks_of_proc q))) h.0;
    each = (subst (TraceOf q) (sym (filter_all (has_symbol (marks_of_proc q)) t h.0)) h.1, tt);
  },
)

-- ---- the process by itself
there : (p : Proc) (t : List ℕ) → AllByRecursion (λ k. k < length (own_symbols p)) t → map (rank (own_symbols p)) (map (symbol_at p) t) ≡ t
there p [] h = refl
there p (k ∷ t) h = λ j. rank_got (own_symbols p) k (symbols_distinct (p ∷ [])) h.0 j ∷ there p t h.1 j

pub alone_traces : (p : Proc) (t : List ℕ) → Trace (renumbered (p ∷ [])) t ↔ (AllByRecursion (λ k. k < length (own_symbols p)) t × TraceOf p (map (symbol_at p) t))
alone_traces p t = (
  λ h. let k = (one_trace (numbered_alone p) t).0 h in (
    all_so (λ x. IsTrue (has_symbol (marks_of_proc (numbered_alone p)) x)) (λ x. x < length (own_symbols p)) t (alone_below p) k.0,
    subst (λ q. TraceOf q (map (symbol_at p) t)) (back p) (trace_renamed (symbol_at p) (numbered_alone p) t k.1),
  ),
  λ h. (one_trace (numbered_alone p) t).1 (
    all_so (λ x. x < length (own_symbols p)) (λ x. IsTrue (has_symbol (marks_of_proc (numbered_alone p)) x)) t (alone_has p) h.0,
    subst (TraceOf (numbered_alone p)) (there p t h.0) (trace_renamed (rank (own_symbols p)) p (map (symbol_at p) t) h.1),
  ),
)
