-- The canonical text of a command has at most 1,048,576 bytes.
use Rattle.std.proofs.Common.{◌≡◌, ℕ, zero, suc, ◌+◌, ◌*◌, ◌≤◌, ◌<◌, List, [], ◌∷◌, ◌++◌, length, length-append, Option, Some, None, refl, arith}
use Rattle.std.specs.Prelude.{IsTrue, ◌&&◌, not, nat_le, codes, slice_index_or}
use Rattle.std.specs.List.{AllByRecursion}
use Rattle.std.proofs.lemmas.Bool.{and_parts, leb-true}
use Rattle.cmd_tree.specs.declared.tree.Dir.{Dir}
use Rattle.cmd_tree.specs.declared.tree.Dir.TheVariants.{Input, Output}
use Rattle.cmd_tree.specs.declared.tree.Mark.{Mark}
use Rattle.cmd_tree.specs.declared.tree.Proc.{Proc}
use Rattle.cmd_tree.specs.Tree.{TItem, TSeq, TSeqs, TBurst, TAlt, Stop, Or, Done, Then, places_of, places_in, places_among}
use Rattle.cmd_tree.specs.Limits.{of_part, IsSeq, IsItem, AreSeqs, IsFull, IsPart, IsProc, IsCommand, count_of, places_of_proc, places_of_all, is_name, begins_with_letter, is_word}
use Rattle.cmd_text.specs.Canonical.{sign, mark_text, marks_led, burst_text, items_led, item_text, seqs_led, seq_text, bare_text, body_text, star_text, parts_text, proc_text, procs_led, procs_text}
use Rattle.cmd_text.specs.Printed.{main_text}

-- ---- a name has at most 32 bytes
name_few : (n : List ℕ) → IsTrue (is_name n) → length n ≤ 32
name_few n h = leb-true (length n) 32 (and_parts (nat_le (length n) 32) (begins_with_letter n) (and_parts (nat_le (length n) 32 && begins_with_letter n) (not (is_word n)) h).0).0

symbol_few : (names : List (List ℕ)) → AllByRecursion (λ n. IsTrue (is_name n)) names → (i : ℕ) → length (slice_index_or names i []) ≤ 32
symbol_few [] h i = omega arith
symbol_few (n ∷ names) h zero = name_few n h.0
symbol_few (n ∷ names) h (suc i) = symbol_few names h.1 i

sign_length : (d : Dir) → length (sign d) ≡ 1
sign_length Input = refl
sign_length Output = refl

three_length : (a b c : List ℕ) → length (a ++ b ++ c) ≡ length a + length b + length c
three_length a b c = omega (arith, length-append (a ++ b) c, length-append a b)

five_length : (a b c d e : List ℕ) → length (a ++ b ++ c ++ d ++ e) ≡ length a + length b + length c + length d + length e
five_length a b c d e = omega (arith, three_length (a ++ b ++ c) d e, three_length a b c)

module _ (names : List (List ℕ)) (few : (i : ℕ) → length (slice_index_or names i []) ≤ 32) where
  mark_few : (m : Mark) → length (mark_text names m) ≤ 33
  mark_few m = omega (arith, length-append (slice_index_or names m.sym.0 []) (sign m.dir), few m.sym.0, sign_length m.dir)

  marks_few : (led : List ℕ) (ms : List Mark) → length led ≤ 2 → length (marks_led names led ms) ≤ 35 * length ms
  marks_few led [] l = omega arith
  marks_few led (m ∷ ms) l = omega (arith, l, three_length led (mark_text names m) (marks_led names (codes "||") ms), mark_few m, marks_few (codes "||") ms (omega arith))

  -- 64 bytes a place leave 4 over in each item: for the semicolon or bar before it, and the brackets about its choice
  burst_few : (ms : List Mark) → 0 < length ms → length (burst_text names ms) + 4 ≤ 64 * length ms
  burst_few [] l = absurd (omega (arith, l))
  burst_few (m ∷ []) l = omega (arith, mark_few m)
  burst_few (m ∷ n ∷ ms) l = omega (arith, three_length (codes "(") (marks_led names [] (m ∷ n ∷ ms)) (codes ")"), marks_few [] (m ∷ n ∷ ms) (omega arith))

  mutual
    items_few : (led : List ℕ) (s : TSeq) → length led ≤ 1 → IsSeq s → length (items_led names led s) ≤ 64 * places_of s
    items_few led Done l h = omega arith
    items_few led (Then i s) l h = omega (arith, l, three_length led (item_text names i) (items_led names (codes ";") s), item_few i h.0, items_few (codes ";") s (omega arith) h.1)

    item_few : (i : TItem) → IsItem i → length (item_text names i) + 4 ≤ 64 * places_in i
    item_few (TBurst ms) h = burst_few ms h
    item_few (TAlt ss) h = omega (arith, h.0, three_length (codes "(") (seqs_led names [] ss) (codes ")"), seqs_few [] ss (omega arith) h.1)

    seqs_few : (led : List ℕ) (ss : TSeqs) → length led ≤ 1 → AreSeqs ss → length (seqs_led names led ss) + 3 * count_of ss ≤ 64 * places_among ss
    seqs_few led Stop l h = omega arith
    seqs_few led (Or s ss) l h = omega (arith, l, three_length led (items_led names [] s) (seqs_led names (codes "|") ss), full_few s h.0, seqs_few (codes "|") ss (omega arith) h.1)

    full_few : (s : TSeq) → IsFull s → length (items_led names [] s) + 4 ≤ 64 * places_of s
    full_few Done h = absurd h
    full_few (Then i s) h = omega (arith, length-append (item_text names i) (items_led names (codes ";") s), item_few i h.0, items_few (codes ";") s (omega arith) h.1)

  -- ---- bodies and processes
  bare_few : (i : TItem) → IsItem i → length (bare_text names i) ≤ 64 * places_in i
  bare_few (TBurst ms) h = omega (arith, burst_few ms h)
  bare_few (TAlt ss) h = omega (arith, seqs_few [] ss (omega arith) h.1)

  body_few : (s : TSeq) → IsFull s → length (body_text names s) ≤ 64 * places_of s
  body_few Done h = absurd h
  body_few (Then i Done) h = omega (arith, bare_few i h.0)
  body_few (Then i (Then j s)) h = omega (arith, full_few (Then i (Then j s)) h)

  star_few : (s : TSeq) → IsFull s → length (star_text names s) ≤ 64 * places_of s + 3
  star_few s h = omega (arith, three_length (codes "*[") (body_text names s) (codes "]"), body_few s h)

  parts_few : (lead body : Option TSeq) → IsPart lead → IsPart body → length (parts_text names lead body) ≤ 64 * (of_part 0 places_of lead + of_part 0 places_of body) + 6
  parts_few None None g h = omega arith
  parts_few None (Some s) g h = omega (arith, star_few s h)
  parts_few (Some l) None g h = omega (arith, three_length (codes "[") (seq_text names l) (codes "]"), full_few l g)
  parts_few (Some l) (Some s) g h = omega (
    arith,
    five_length (codes "[") (seq_text names l) (codes ";") (star_text names s) (codes "]"),
    full_few l g,
    star_few s h,
  )

  proc_few : (p : Proc) → IsProc p → length (proc_text names p) ≤ 64 * places_of_proc p + 10
  proc_few p h = omega (arith, length-append (codes "pref") (parts_text names p.lead p.body), parts_few p.lead p.body h.1 h.2)

  procs_few : (led : List ℕ) (ps : List Proc) → length led ≤ 2 → AllByRecursion IsProc ps → length (procs_led names led ps) ≤ 64 * places_of_all ps + 12 * length ps
  procs_few led [] l h = omega arith
  procs_few led (p ∷ ps) l h = omega (arith, l, three_length led (proc_text names p) (procs_led names (codes "||") ps), proc_few p h.0, procs_few (codes "||") ps (omega arith) h.1)

pub printed_short : (names : List (List ℕ)) (procs : List Proc) → IsCommand names procs → length (main_text names procs) ≤ 1048576
printed_short names procs c = omega (
  arith,
  three_length (codes "main := ") (procs_text names procs) (codes "."),
  procs_few names (symbol_few names c.formed) [] procs (omega arith) c.shaped,
  c.few_places,
  c.few_procs,
)
