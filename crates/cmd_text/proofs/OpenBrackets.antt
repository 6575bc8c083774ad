-- Where at most 64 round brackets are open in a text of `main` alone, so it is in each of its processes.
use Rattle.std.proofs.Common.{◌≡◌, ℕ, ◌+◌, ◌-◌, ◌≤◌, Bool, true, false, List, [], ◌∷◌, map, length, max, Option, Some, None, subst, arith}
use Rattle.std.specs.Prelude.{nat_lt, if◌then◌else◌}
use Rattle.std.specs.List.{AllByRecursion}
use Rattle.cmd_tree.specs.declared.tree.Dir.{Dir}
use Rattle.cmd_tree.specs.declared.tree.Dir.TheVariants.{Input, Output}
use Rattle.cmd_tree.specs.declared.tree.Mark.{Mark}
use Rattle.cmd_tree.specs.Tree.{TItem, TSeq, TSeqs, TBurst, TAlt, Stop, Or, Done, Then}
use Rattle.cmd_tree.specs.Limits.{of_part, brackets_of, brackets_in, brackets_among, brackets_of_body, brackets_of_proc}
use Rattle.cmd_text.specs.Token.{Token, Semi, Close, LeftSq, RightSq, Star}
use Rattle.cmd_text.specs.Process.{sign_of, more_marks, burst, seq, more, item, among, more_among, process, body_of, Written, proc_of}
use Rattle.cmd_text.specs.Fault.{IsShallow}
use Rattle.cmd_text.proofs.MainTokens.{more_written, all_written}

-- a tree of b brackets in n others, and the rest
abbrev Fits : ℕ → ℕ → List Token → Type 0
Fits b n r = (b + n ≤ 64) × IsShallow n r

sign_shallow : (d : Dir) (n : ℕ) (r : List Token) → IsShallow n (sign_of d ∷ r) → IsShallow n r
sign_shallow Input n r h = h.1
sign_shallow Output n r h = h.1

pub closed : (n : ℕ) → n + 1 - 1 ≡ n
closed n = omega arith

close_shallow : (n : ℕ) (r : List Token) → IsShallow (n + 1) (Close ∷ r) → IsShallow n r
close_shallow n r h = subst (λ k. IsShallow k r) (closed n) h.1

at_most_one : (b : Bool) (n : ℕ) → n + 1 ≤ 64 → (if b then 1 else 0) + n ≤ 64
at_most_one true n h = omega (arith, h)
at_most_one false n h = omega (arith, h)

both_fit : (a b n : ℕ) → a + n ≤ 64 → b + n ≤ 64 → max a b + n ≤ 64
both_fit a b n g h = omega (arith, g, h)

module _ (name : ℕ → List ℕ) where
  marks_shallow : (ms : List Mark) (n : ℕ) (r : List Token) → IsShallow n (more_marks name ms r) → IsShallow n r
  marks_shallow [] n r h = h
  marks_shallow (m ∷ ms) n r h = marks_shallow ms n r (sign_shallow m.dir n (more_marks name ms r) h.1.1)

  burst_shallow : (ms : List Mark) (n : ℕ) (r : List Token) → n ≤ 64 → IsShallow n (burst name ms r) → Fits (brackets_in (TBurst ms)) n r
  burst_shallow [] n r g h = (omega (arith, g), h)
  burst_shallow (m ∷ []) n r g h = (omega (arith, g), sign_shallow m.dir n r h.1)
  burst_shallow (m ∷ k ∷ ms) n r g h = (
    at_most_one (nat_lt 1 (length (m ∷ k ∷ ms))) n h.0,
    close_shallow n r (marks_shallow (k ∷ ms) (n + 1) (Close ∷ r) (sign_shallow m.dir (n + 1) (more_marks name (k ∷ ms) (Close ∷ r)) h.1.1)),
  )

  mutual
    seq_shallow : (s : TSeq) (n : ℕ) (r : List Token) → n ≤ 64 → IsShallow n (seq name s r) → Fits (brackets_of s) n r
    seq_shallow Done n r g h = (omega (arith, g), h)
    seq_shallow (Then i s) n r g h =
        let a = item_shallow i n (more name s r) g h in
        let b = more_shallow s n r g a.1 in
        (both_fit (brackets_in i) (brackets_of s) n a.0 b.0, b.1)

    more_shallow : (s : TSeq) (n : ℕ) (r : List Token) → n ≤ 64 → IsShallow n (more name s r) → Fits (brackets_of s) n r
    more_shallow Done n r g h = (omega (arith, g), h)
    more_shallow (Then i s) n r g h =
        let a = item_shallow i n (more name s r) g h.1 in
        let b = more_shallow s n r g a.1 in
        (both_fit (brackets_in i) (brackets_of s) n a.0 b.0, b.1)

    item_shallow : (i : TItem) (n : ℕ) (r : List Token) → n ≤ 64 → IsShallow n (item name i r) → Fits (brackets_in i) n r
    item_shallow (TBurst ms) n r g h = burst_shallow ms n r g h
    item_shallow (TAlt ss) n r g h =
        let a = among_shallow ss (n + 1) (Close ∷ r) h.0 h.1 in
        (omega (arith, a.0), close_shallow n r a.1)

    among_shallow : (ss : TSeqs) (n : ℕ) (r : List Token) → n ≤ 64 → IsShallow n (among name ss r) → Fits (brackets_among ss) n r
    among_shallow Stop n r g h = (omega (arith, g), h)
    among_shallow (Or s ss) n r g h =
        let a = seq_shallow s n (more_among name ss r) g h in
        let b = more_among_shallow ss n r g a.1 in
        (both_fit (brackets_of s) (brackets_among ss) n a.0 b.0, b.1)

    more_among_shallow : (ss : TSeqs) (n : ℕ) (r : List Token) → n ≤ 64 → IsShallow n (more_among name ss r) → Fits (brackets_among ss) n r
    more_among_shallow Stop n r g h = (omega (arith, g), h)
    more_among_shallow (Or s ss) n r g h =
        let a = seq_shallow s n (more_among name ss r) g h.1 in
        let b = more_among_shallow ss n r g a.1 in
        (both_fit (brackets_of s) (brackets_among ss) n a.0 b.0, b.1)

  -- a body that is one choice alone has the brackets of its alternatives
  bare : (s : TSeq) → brackets_of_body s ≤ brackets_of s
  bare Done = omega arith
  bare (Then (TAlt ss) Done) = omega arith
  bare (Then (TAlt ss) (Then i s)) = omega arith
  bare (Then (TBurst ms) s) = omega arith

  body_brackets : (body : TSeqs) → brackets_of_body (body_of body) ≤ brackets_among body
  body_brackets Stop = omega arith
  body_brackets (Or s Stop) = omega (arith, bare s)
  body_brackets (Or s (Or t ss)) = omega arith

  at_zero : (a b : ℕ) → a ≤ b → b + 0 ≤ 64 → a ≤ 64
  at_zero a b g h = omega (arith, g, h)

  process_shallow : (lead : Option TSeq) (body : TSeqs) (r : List Token) → IsShallow 0 (process name lead body r) → (max (of_part 0 brackets_of lead) (brackets_of_body (body_of body)) ≤ 64) × IsShallow 0 r
  process_shallow None body r h =
      let a = among_shallow body 0 (RightSq ∷ r) (omega arith) h.1.1 in
      (at_zero (max 0 (brackets_of_body (body_of body))) (brackets_among body) (omega (arith, body_brackets body)) a.0, a.1.1)
  process_shallow (Some l) body r h =
      let a = seq_shallow l 0 (Semi ∷ Star ∷ LeftSq ∷ among name body (RightSq ∷ RightSq ∷ r)) (omega arith) h.1 in
      let b = among_shallow body 0 (RightSq ∷ RightSq ∷ r) (omega arith) a.1.1.1.1 in
      (at_zero (max (brackets_of l) (brackets_of_body (body_of body))) (max (brackets_of l) (brackets_among body)) (omega (arith, body_brackets body)) (both_fit (brackets_of l) (brackets_among body) 0 a.0 b.0), b.1.1.1)

  more_written_shallow : (ws : List Written) (r : List Token) → IsShallow 0 (more_written name ws r) → AllByRecursion (λ p. brackets_of_proc p ≤ 64) (map proc_of ws)
  more_written_shallow [] r h = tt
  more_written_shallow (w ∷ ws) r h =
      let a = process_shallow w.lead w.body (more_written name ws r) h.1.1 in
      (a.0, more_written_shallow ws r a.1)

  pub written_shallow : (ws : List Written) (r : List Token) → IsShallow 0 (all_written name ws r) → AllByRecursion (λ p. brackets_of_proc p ≤ 64) (map proc_of ws)
  written_shallow [] r h = tt
  written_shallow (w ∷ ws) r h =
      let a = process_shallow w.lead w.body (more_written name ws r) h.1 in
      (a.0, more_written_shallow ws r a.1)
