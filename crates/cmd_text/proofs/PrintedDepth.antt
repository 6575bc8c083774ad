-- The canonical text of a command has at most 64 round brackets open at once.
use Rattle.std.proofs.Common.{◌≡◌, ℕ, ◌+◌, ◌≤◌, Bool, true, false, List, [], ◌∷◌, map, length, max, Option, Some, None, sym, subst, arith}
use Rattle.std.specs.Prelude.{nat_lt, if◌then◌else◌}
use Rattle.std.specs.List.{AllByRecursion}
use Rattle.std.proofs.lemmas.Bool.{lt-ltb}
use Rattle.cmd_tree.specs.declared.tree.Dir.{Dir}
use Rattle.cmd_tree.specs.declared.tree.Dir.TheVariants.{Input, Output}
use Rattle.cmd_tree.specs.declared.tree.Mark.{Mark}
use Rattle.cmd_tree.specs.declared.tree.Proc.{Proc}
use Rattle.cmd_tree.specs.Tree.{TItem, TSeq, TSeqs, TBurst, TAlt, Stop, Or, Done, Then}
use Rattle.cmd_tree.specs.Limits.{of_part, brackets_of, brackets_in, brackets_among, brackets_of_body, brackets_of_proc, IsCommand}
use Rattle.cmd_text.specs.Token.{Token, Main, Define, Dot, Semi, Close, LeftSq, RightSq, Star, End}
use Rattle.cmd_text.specs.Process.{sign_of, mark, more_marks, burst, seq, more, item, among, more_among, process}
use Rattle.cmd_text.specs.Names.{name_in}
use Rattle.cmd_text.specs.Fault.{IsShallow}
use Rattle.cmd_text.proofs.MainTokens.{more_written, all_written}
use Rattle.cmd_text.proofs.OpenBrackets.{closed}
use Rattle.cmd_text.proofs.AsWritten.{alternatives, written_of}

close_fits : (n : ℕ) (r : List Token) → n ≤ 64 → IsShallow n r → IsShallow (n + 1) (Close ∷ r)
close_fits n r l h = (omega (arith, l), subst (λ k. IsShallow k r) (sym (closed n)) h)

one_more : (b : Bool) (n : ℕ) → b ≡ true → (if b then 1 else 0) + n ≤ 64 → n + 1 ≤ 64
one_more true n e h = omega (arith, h)
one_more false n e h = absurd (cc)

left_fits : (a b n : ℕ) → max a b + n ≤ 64 → a + n ≤ 64
left_fits a b n h = omega (arith, h)

right_fits : (a b n : ℕ) → max a b + n ≤ 64 → b + n ≤ 64
right_fits a b n h = omega (arith, h)

inner_fits : (b n : ℕ) → (b + 1) + n ≤ 64 → b + (n + 1) ≤ 64
inner_fits b n h = omega (arith, h)

alone_fits : (b n : ℕ) → b + n ≤ 64 → n ≤ 64
alone_fits b n h = omega (arith, h)

module _ (name : ℕ → List ℕ) where
  sign_fits : (d : Dir) (n : ℕ) (r : List Token) → n ≤ 64 → IsShallow n r → IsShallow n (sign_of d ∷ r)
  sign_fits Input n r l h = (l, h)
  sign_fits Output n r l h = (l, h)

  mark_fits : (m : Mark) (n : ℕ) (r : List Token) → n ≤ 64 → IsShallow n r → IsShallow n (mark name m r)
  mark_fits m n r l h = (l, sign_fits m.dir n r l h)

  marks_fit : (ms : List Mark) (n : ℕ) (r : List Token) → n ≤ 64 → IsShallow n r → IsShallow n (more_marks name ms r)
  marks_fit [] n r l h = h
  marks_fit (m ∷ ms) n r l h = (l, mark_fits m n (more_marks name ms r) l (marks_fit ms n r l h))

  burst_fits : (ms : List Mark) (n : ℕ) (r : List Token) → brackets_in (TBurst ms) + n ≤ 64 → IsShallow n r → IsShallow n (burst name ms r)
  burst_fits [] n r l h = h
  burst_fits (m ∷ []) n r l h = mark_fits m n r (alone_fits (brackets_in (TBurst (m ∷ []))) n l) h
  burst_fits (m ∷ k ∷ ms) n r l h =
      let o : n + 1 ≤ 64 = one_more (nat_lt 1 (length (m ∷ k ∷ ms))) n (lt-ltb 1 (length (m ∷ k ∷ ms)) (omega arith)) l in
      (o, mark_fits m (n + 1) (more_marks name (k ∷ ms) (Close ∷ r)) o (marks_fit (k ∷ ms) (n + 1) (Close ∷ r) o (close_fits n r (omega (arith, o)) h)))

  mutual
    seq_fits : (s : TSeq) (n : ℕ) (r : List Token) → brackets_of s + n ≤ 64 → IsShallow n r → IsShallow n (seq name s r)
    seq_fits Done n r l h = h
    seq_fits (Then i s) n r l h = item_fits i n (more name s r) (left_fits (brackets_in i) (brackets_of s) n l) (more_fits s n r (right_fits (brackets_in i) (brackets_of s) n l) h)

    more_fits : (s : TSeq) (n : ℕ) (r : List Token) → brackets_of s + n ≤ 64 → IsShallow n r → IsShallow n (more name s r)
    more_fits Done n r l h = h
    more_fits (Then i s) n r l h = (
      alone_fits (max (brackets_in i) (brackets_of s)) n l,
      item_fits i n (more name s r) (left_fits (brackets_in i) (brackets_of s) n l) (more_fits s n r (right_fits (brackets_in i) (brackets_of s) n l) h),
    )

    item_fits : (i : TItem) (n : ℕ) (r : List Token) → brackets_in i + n ≤ 64 → IsShallow n r → IsShallow n (item name i r)
    item_fits (TBurst ms) n r l h = burst_fits ms n r l h
    item_fits (TAlt ss) n r l h =
        let o : n + 1 ≤ 64 = alone_fits (brackets_among ss) (n + 1) (inner_fits (brackets_among ss) n l) in
        (o, among_fits ss (n + 1) (Close ∷ r) (inner_fits (brackets_among ss) n l) (close_fits n r (omega (arith, o)) h))

    among_fits : (ss : TSeqs) (n : ℕ) (r : List Token) → brackets_among ss + n ≤ 64 → IsShallow n r → IsShallow n (among name ss r)
    among_fits Stop n r l h = h
    among_fits (Or s ss) n r l h = seq_fits s n (more_among name ss r) (left_fits (brackets_of s) (brackets_among ss) n l) (more_among_fits ss n r (right_fits (brackets_of s) (brackets_among ss) n l) h)

    more_among_fits : (ss : TSeqs) (n : ℕ) (r : List Token) → brackets_among ss + n ≤ 64 → IsShallow n r → IsShallow n (more_among name ss r)
    more_among_fits Stop n r l h = h
    more_among_fits (Or s ss) n r l h = (
      alone_fits (max (brackets_of s) (brackets_among ss)) n l,
      seq_fits s n (more_among name ss r) (left_fits (brackets_of s) (brackets_among ss) n l) (more_among_fits ss n r (right_fits (brackets_of s) (brackets_among ss) n l) h),
    )

  -- ---- processes: no round bracket is open between them
  alternatives_brackets : (s : TSeq) → brackets_of_body s ≤ 64 → brackets_among (alternatives s) + 0 ≤ 64
  alternatives_brackets Done h = omega arith
  alternatives_brackets (Then (TBurst ms) s) h = omega (arith, h)
  alternatives_brackets (Then (TAlt ss) Done) h = omega (arith, h)
  alternatives_brackets (Then (TAlt ss) (Then i s)) h = omega (arith, h)

  body_brackets : (o : Option TSeq) → of_part 0 brackets_of_body o ≤ 64 → brackets_among (of_part Stop alternatives o) + 0 ≤ 64
  body_brackets None h = omega arith
  body_brackets (Some s) h = alternatives_brackets s h

  process_fits : (lead : Option TSeq) (body : TSeqs) (r : List Token) → of_part 0 brackets_of lead ≤ 64 → brackets_among body + 0 ≤ 64 → IsShallow 0 r → IsShallow 0 (process name lead body r)
  process_fits None body r l b h = (omega arith, (omega arith, among_fits body 0 (RightSq ∷ r) b (omega arith, h)))
  process_fits (Some s) body r l b h = (
    omega arith,
    seq_fits s 0 (Semi ∷ Star ∷ LeftSq ∷ among name body (RightSq ∷ RightSq ∷ r)) (omega (arith, l))
        (omega arith, (omega arith, (omega arith, among_fits body 0 (RightSq ∷ RightSq ∷ r) b (omega arith, (omega arith, h))))),
  )

  proc_fits : (p : Proc) (r : List Token) → brackets_of_proc p ≤ 64 → IsShallow 0 r → IsShallow 0 (process name p.lead (of_part Stop alternatives p.body) r)
  proc_fits p r b h = process_fits p.lead (of_part Stop alternatives p.body) r (omega (arith, b)) (body_brackets p.body (omega (arith, b))) h

  more_procs_fit : (ps : List Proc) (r : List Token) → AllByRecursion (λ p. brackets_of_proc p ≤ 64) ps → IsShallow 0 r → IsShallow 0 (more_written name (map written_of ps) r)
  more_procs_fit [] r b h = h
  more_procs_fit (p ∷ ps) r b h = (omega arith, (omega arith, proc_fits p (more_written name (map written_of ps) r) b.0 (more_procs_fit ps r b.1 h)))

  procs_fit : (ps : List Proc) (r : List Token) → AllByRecursion (λ p. brackets_of_proc p ≤ 64) ps → IsShallow 0 r → IsShallow 0 (all_written name (map written_of ps) r)
  procs_fit [] r b h = h
  procs_fit (p ∷ ps) r b h = (omega arith, proc_fits p (more_written name (map written_of ps) r) b.0 (more_procs_fit ps r b.1 h))

pub printed_shallow : (names : List (List ℕ)) (procs : List Proc) → IsCommand names procs → IsShallow 0 (Main ∷ Define ∷ all_written (name_in names) (map written_of procs) (Dot ∷ End ∷ []))
printed_shallow names procs c = (omega arith, (omega arith, procs_fit (name_in names) procs (Dot ∷ End ∷ []) c.few_brackets (omega arith, (omega arith, tt))))
