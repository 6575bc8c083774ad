-- Back from the numbers of a process by itself to its symbols in the command.
use Rattle.std.proofs.Common.{◌≡◌, ℕ, ◌+◌, ◌<◌, ◌≤◌, Bool, true, false, true≢false, ◌||◌, List, [], ◌∷◌, length, max, Option, Some, None, refl, sym, ap, ◌∙◌, subst, arith, eqb-true, eq-eqb, append-nil}
use Rattle.std.specs.Prelude.{IsTrue, nat_eq}
use Rattle.std.specs.List.{AllByRecursion}
use Rattle.cmd_tree.specs.declared.tree.Mark.{Mark}
use Rattle.cmd_tree.specs.declared.tree.Proc.{Proc}
use Rattle.cmd_tree.specs.Tree.{TItem, TSeq, TSeqs, TBurst, TAlt, Stop, Or, Done, Then}
use Rattle.cmd_tree.specs.Limits.{marks_of_proc, marks_of_all, IsNumbered}
use Rattle.cmd_tree.specs.Lists.{is_in}
use Rattle.cmd_tree.specs.Meaning.{symbols}
use Rattle.cmd_rename.specs.Renaming.{ren_marks, ren_seq, ren_item, ren_seqs, ren_part, ren_proc}
use Rattle.cmd_rename.specs.Symbols.{symbols_in, rank, renumbered}
use Rattle.cmd_rename.proofs.Laws.{Agree, ren_twice, ren_agree}
use Rattle.cmd_rename.proofs.Numbering.{renumbered_numbered}
use Rattle.cmd_rename.proofs.Orders.{in_each}
use Rattle.cmd_alone.specs.Alone.{own_symbols, symbol_at}
use Rattle.cmd_alone.proofs.Ranks.{got_rank}
use Rattle.cmd_alone.proofs.Valid.{numbered_below}

-- ---- nothing is renamed
marks_same : (ms : List Mark) → ren_marks (λ a. a) ms ≡ ms
marks_same [] = refl
marks_same (m ∷ ms) = ap (λ u. m ∷ u) (marks_same ms)

mutual
  seq_same : (s : TSeq) → ren_seq (λ a. a) s ≡ s
  seq_same Done = refl
  seq_same (Then i s) = λ k. Then (item_same i k) (seq_same s k)

  item_same : (i : TItem) → ren_item (λ a. a) i ≡ i
  item_same (TBurst ms) = λ k. TBurst (marks_same ms k)
  item_same (TAlt ss) = λ k. TAlt (seqs_same ss k)

  seqs_same : (ss : TSeqs) → ren_seqs (λ a. a) ss ≡ ss
  seqs_same Stop = refl
  seqs_same (Or s ss) = λ k. Or (seq_same s k) (seqs_same ss k)

part_same : (s : Option TSeq) → ren_part (λ a. a) s ≡ s
part_same None = refl
part_same (Some s) = λ k. Some (seq_same s k)

proc_same : (p : Proc) → ren_proc (λ a. a) p ≡ p
proc_same p = λ k. record { lead = part_same p.lead k; body = part_same p.body k }

-- ---- a renaming with a way back
abbrev head_or : Proc → List Proc → Proc
head_or p [] = p
head_or p (q ∷ qs) = q

one_twice : (f g : ℕ → ℕ) (p : Proc) → ren_proc g (ren_proc f p) ≡ ren_proc (λ a. g (f a)) p
one_twice f g p = ap (head_or p) (ren_twice f g (p ∷ []))

pub one_agree : (f g : ℕ → ℕ) (p : Proc) → Agree f g (symbols_in (marks_of_all (p ∷ []))) → ren_proc f p ≡ ren_proc g p
one_agree f g p h = ap (head_or p) (ren_agree f g (p ∷ []) h)

pub there_and_back : (f g : ℕ → ℕ) (p : Proc) → ((a : ℕ) → IsTrue (is_in a (symbols_in (marks_of_all (p ∷ [])))) → g (f a) ≡ a) → ren_proc g (ren_proc f p) ≡ p
there_and_back f g p h = one_twice f g p ∙ one_agree (λ a. g (f a)) (λ a. a) p h ∙ proc_same p

-- ---- the process by itself
abbrev pub numbered_alone : Proc → Proc
numbered_alone p = ren_proc (rank (own_symbols p)) p

pub own_in : (p : Proc) (a : ℕ) → IsTrue (is_in a (symbols_in (marks_of_all (p ∷ [])))) → IsTrue (is_in a (own_symbols p))
own_in p a h = in_each [] (symbols_in (marks_of_all (p ∷ []))) a h

pub back : (p : Proc) → ren_proc (symbol_at p) (numbered_alone p) ≡ p
back p = there_and_back (rank (own_symbols p)) (symbol_at p) p (λ a i. got_rank (own_symbols p) a (own_in p a i))

-- its symbols are the first numbers
numbered_has : (j : ℕ) (ms : List Mark) (n k : ℕ) → IsNumbered j ms n → j ≤ k → k < n → IsTrue (is_in k (symbols ms))
numbered_has j [] n k h l f = absurd (omega (arith, h, l, f))
numbered_has j (m ∷ ms) n k h l f = by (nat_eq k m.sym.0) refl (λ e. numbered_has (max j (m.sym.0 + 1)) ms n k h.1 (omega (arith, h.0, l, e)) f)
  where
    apart : nat_eq k m.sym.0 ≡ false → k ≡ m.sym.0 → ⊥
    apart e q = true≢false (sym (eq-eqb k m.sym.0 q) ∙ e)

    by : (b : Bool) → nat_eq k m.sym.0 ≡ b → ((k ≡ m.sym.0 → ⊥) → IsTrue (is_in k (symbols ms))) → IsTrue (b || is_in k (symbols ms))
    by true e f = refl
    by false e f = f (apart e)

all_in : (P : ℕ → Type 0) (ms : List Mark) (k : ℕ) → AllByRecursion (λ m. P m.sym.0) ms → IsTrue (is_in k (symbols ms)) → P k
all_in P [] k h i = absurd (cc)
all_in P (m ∷ ms) k h i = by (nat_eq k m.sym.0) refl i (λ j. all_in P ms k h.1 j)
  where
    by : (b : Bool) → nat_eq k m.sym.0 ≡ b → IsTrue (b || is_in k (symbols ms)) → (IsTrue (is_in k (symbols ms)) → P k) → P k
    by true e j f = subst P (sym (eqb-true k m.sym.0 e)) h.0
    by false e j f = f j

one_marks : (q : Proc) → marks_of_all (q ∷ []) ≡ marks_of_proc q
one_marks q = append-nil (marks_of_proc q)

pub alone_below : (p : Proc) (k : ℕ) → IsTrue (is_in k (symbols (marks_of_proc (numbered_alone p)))) → k < length (own_symbols p)
alone_below p k h = all_in (λ j. j < length (own_symbols p)) (marks_of_proc (numbered_alone p)) k
    (subst (AllByRecursion (λ (m : Mark). m.sym.0 < length (own_symbols p))) (one_marks (numbered_alone p))
    (numbered_below 0 (marks_of_all (renumbered (p ∷ []))) (length (own_symbols p)) (renumbered_numbered (p ∷ [])))) h

pub alone_has : (p : Proc) (k : ℕ) → k < length (own_symbols p) → IsTrue (is_in k (symbols (marks_of_proc (numbered_alone p))))
alone_has p k l = subst (λ ms. IsTrue (is_in k (symbols ms))) (one_marks (numbered_alone p))
    (numbered_has 0 (marks_of_all (renumbered (p ∷ []))) (length (own_symbols p)) k (renumbered_numbered (p ∷ [])) (omega arith) l)
