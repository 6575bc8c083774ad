-- The canonical text of a command has no line feed, so equal texts are of equal commands, whatever follows on the next line.
use Rattle.std.proofs.Common.{◌≡◌, ℕ, zero, suc, ◌≤◌, Bool, true, List, [], ◌∷◌, ◌++◌, map, length, Option, Some, None, refl, sym, ap, subst, arith}
use Rattle.std.specs.Prelude.{IsTrue, ◌&&◌, not, nat_eq, nat_le, codes, slice_index_or}
use Rattle.std.specs.List.{AllByRecursion, list_all}
use Rattle.std.proofs.lemmas.Bool.{and_parts}
use Rattle.std.proofs.lemmas.Bool.Decides.{nat_tests}
use Rattle.cmd_tree.specs.declared.tree.Dir.{Dir}
use Rattle.cmd_tree.specs.declared.tree.Dir.TheVariants.{Input, Output}
use Rattle.cmd_tree.specs.declared.tree.Mark.{Mark}
use Rattle.cmd_tree.specs.declared.tree.Proc.{Proc}
use Rattle.cmd_tree.specs.declared.command.Command.{Command}
use Rattle.cmd_tree.specs.declared.limits.TheConstants.{MAX_FILE_BYTES}
use Rattle.cmd_tree.specs.Tree.{TItem, TSeq, TSeqs, TBurst, TAlt, Stop, Or, Done, Then}
use Rattle.cmd_tree.specs.Limits.{IsCommand, IsCommand-prop, is_name, is_tail, is_letter, begins_with_letter, is_word}
use Rattle.cmd_text.specs.Canonical.{sign, mark_text, marks_led, burst_text, items_led, item_text, seqs_led, seq_text, bare_text, body_text, star_text, parts_text, proc_text, procs_led, procs_text}
use Rattle.cmd_text.specs.declared.file.Sentence.{Sentence}
use Rattle.cmd_text.specs.declared.file.Factor.TheVariants.{Own}
use Rattle.cmd_text.specs.Source.{IsTextOfBytes, IsShallowText}
use Rattle.cmd_text.specs.Printed.{main_text, main_sentence}
use Rattle.cmd_text.proofs.WholeFile.{one_file}
use Rattle.net_core.proofs.Sizes.{all_append}
use Rattle.net_text.proofs.Words.{Word}

abbrev pub is_in_line : ℕ → Bool
is_in_line b = not (nat_eq b 10)

abbrev pub InLine : List ℕ → Type 0
InLine bytes = Word is_in_line bytes

joined : (a b : List ℕ) → InLine a → InLine b → InLine (a ++ b)
joined a b h k = all_append (λ c. is_in_line c ≡ true) a b h k

three : (a b c : List ℕ) → InLine a → InLine b → InLine c → InLine (a ++ b ++ c)
three a b c h k l = joined (a ++ b) c (joined a b h k) l

-- ---- names
letter_in_line : (b : ℕ) → is_letter b ≡ true → is_in_line b ≡ true
letter_in_line b h = grind (arith, nat_tests)

tail_in_line : (b : ℕ) → is_tail b ≡ true → is_in_line b ≡ true
tail_in_line b h = grind (arith, nat_tests)

tails_in_line : (bs : List ℕ) → list_all is_tail bs ≡ true → InLine bs
tails_in_line [] h = tt
tails_in_line (b ∷ bs) h =
    let p = and_parts (is_tail b) (list_all is_tail bs) h in
    (tail_in_line b p.0, tails_in_line bs p.1)

begun_in_line : (n : List ℕ) → begins_with_letter n ≡ true → InLine n
begun_in_line [] h = tt
begun_in_line (b ∷ bs) h =
    let p = and_parts (is_letter b) (list_all is_tail bs) h in
    (letter_in_line b p.0, tails_in_line bs p.1)

pub name_in_line : (n : List ℕ) → IsTrue (is_name n) → InLine n
name_in_line n h = begun_in_line n
    (and_parts (nat_le (length n) 32) (begins_with_letter n)
    (and_parts (nat_le (length n) 32 && begins_with_letter n) (not (is_word n)) h).0).1

symbol_in_line : (names : List (List ℕ)) → AllByRecursion (λ n. IsTrue (is_name n)) names → (i : ℕ)
    → InLine (slice_index_or names i [])
symbol_in_line [] h i = tt
symbol_in_line (n ∷ names) h zero = name_in_line n h.0
symbol_in_line (n ∷ names) h (suc i) = symbol_in_line names h.1 i

sign_in_line : (d : Dir) → InLine (sign d)
sign_in_line Input = (refl, tt)
sign_in_line Output = (refl, tt)

-- ---- bursts, sequences and processes
module _ (names : List (List ℕ)) (named : (i : ℕ) → InLine (slice_index_or names i [])) where
  mark_in_line : (m : Mark) → InLine (mark_text names m)
  mark_in_line m = joined (slice_index_or names m.sym.0 []) (sign m.dir) (named m.sym.0) (sign_in_line m.dir)

  marks_in_line : (led : List ℕ) (ms : List Mark) → InLine led → InLine (marks_led names led ms)
  marks_in_line led [] l = tt
  marks_in_line led (m ∷ ms) l = three led (mark_text names m) (marks_led names (codes "||") ms) l (mark_in_line m)
      (marks_in_line (codes "||") ms (refl, (refl, tt)))

  burst_in_line : (ms : List Mark) → InLine (burst_text names ms)
  burst_in_line [] = tt
  burst_in_line (m ∷ []) = mark_in_line m
  burst_in_line (m ∷ n ∷ ms) = three (codes "(") (marks_led names [] (m ∷ n ∷ ms)) (codes ")") (refl, tt)
      (marks_in_line [] (m ∷ n ∷ ms) tt) (refl, tt)

  mutual
    items_in_line : (led : List ℕ) (s : TSeq) → InLine led → InLine (items_led names led s)
    items_in_line led Done l = tt
    items_in_line led (Then i s) l = three led (item_text names i) (items_led names (codes ";") s) l (item_in_line i)
        (items_in_line (codes ";") s (refl, tt))

    item_in_line : (i : TItem) → InLine (item_text names i)
    item_in_line (TBurst ms) = burst_in_line ms
    item_in_line (TAlt ss) = three (codes "(") (seqs_led names [] ss) (codes ")") (refl, tt) (seqs_in_line [] ss tt) (refl, tt)

    seqs_in_line : (led : List ℕ) (ss : TSeqs) → InLine led → InLine (seqs_led names led ss)
    seqs_in_line led Stop l = tt
    seqs_in_line led (Or s ss) l = three led (items_led names [] s) (seqs_led names (codes "|") ss) l (items_in_line [] s tt)
        (seqs_in_line (codes "|") ss (refl, tt))

  bare_in_line : (i : TItem) → InLine (bare_text names i)
  bare_in_line (TBurst ms) = burst_in_line ms
  bare_in_line (TAlt ss) = seqs_in_line [] ss tt

  body_in_line : (s : TSeq) → InLine (body_text names s)
  body_in_line Done = tt
  body_in_line (Then i Done) = bare_in_line i
  body_in_line (Then i (Then j s)) = items_in_line [] (Then i (Then j s)) tt

  star_in_line : (s : TSeq) → InLine (star_text names s)
  star_in_line s = three (codes "*[") (body_text names s) (codes "]") (refl, (refl, tt)) (body_in_line s) (refl, tt)

  parts_in_line : (lead body : Option TSeq) → InLine (parts_text names lead body)
  parts_in_line None None = tt
  parts_in_line None (Some s) = star_in_line s
  parts_in_line (Some l) None = three (codes "[") (seq_text names l) (codes "]") (refl, tt) (items_in_line [] l tt) (refl, tt)
  parts_in_line (Some l) (Some s) = three (codes "[" ++ seq_text names l ++ codes ";") (star_text names s) (codes "]")
      (three (codes "[") (seq_text names l) (codes ";") (refl, tt) (items_in_line [] l tt) (refl, tt)) (star_in_line s) (refl, tt)

  proc_in_line : (p : Proc) → InLine (proc_text names p)
  proc_in_line p = joined (codes "pref") (parts_text names p.lead p.body) (refl, (refl, (refl, (refl, tt)))) (parts_in_line p.lead p.body)

  procs_in_line : (led : List ℕ) (ps : List Proc) → InLine led → InLine (procs_led names led ps)
  procs_in_line led [] l = tt
  procs_in_line led (p ∷ ps) l = three led (proc_text names p) (procs_led names (codes "||") ps) l (proc_in_line p)
      (procs_in_line (codes "||") ps (refl, (refl, tt)))

pub command_in_line : (names : List (List ℕ)) (procs : List Proc) → IsCommand names procs → InLine (procs_text names procs)
command_in_line names procs c = procs_in_line names (symbol_in_line names c.formed) [] procs tt

-- a command is known by its names and its processes
abbrev as_command : (names : List (List ℕ)) (procs : List Proc) → IsCommand names procs → Command
as_command names procs c = record { names = names; procs = procs; valid = c }

same_given : (m n : List (List ℕ)) (p q : List Proc) (v : IsCommand m p) (w : IsCommand n q) → m ≡ n → p ≡ q
    → as_command m p v ≡ as_command n q w
same_given m n p q v w e f =
    let here : (u : IsCommand m p) → as_command m p v ≡ as_command m p u =
    λ u. ap (as_command m p) (IsCommand-prop m p v u) in
    let there : (u : IsCommand m q) → as_command m p v ≡ as_command m q u =
    subst (λ (r : List Proc). (u : IsCommand m r) → as_command m p v ≡ as_command m r u) f here in
    subst (λ (o : List (List ℕ)). (u : IsCommand o q) → as_command m p v ≡ as_command o q u) e there w

pub same_command : (k l : Command) → k.names ≡ l.names → k.procs ≡ l.procs → k ≡ l
same_command k l n p = same_given k.names l.names k.procs l.procs k.valid l.valid n p

-- ---- commands with the same text
same_own : (p q : List Proc) → map Own p ≡ map Own q → p ≡ q
same_own [] [] e = refl
same_own [] (y ∷ q) e = absurd (cc)
same_own (x ∷ p) [] e = absurd (cc)
same_own (x ∷ p) (y ∷ q) e =
    let s : x ≡ y = cc in
    let t : map Own p ≡ map Own q = cc in
    λ i. s i ∷ same_own p q t i

same_main : (p q : List Proc) → main_sentence p ∷ [] ≡ main_sentence q ∷ [] → p ≡ q
same_main p q e =
    let s : main_sentence p ≡ main_sentence q = cc in
    same_own p q (ap (λ (u : Sentence). u.factors) s)

-- the law that canonical texts are read
abbrev pub AreRead : Type 0
AreRead = (names : List (List ℕ)) (procs : List Proc) → IsCommand names procs
    → IsTextOfBytes (main_text names procs) names (main_sentence procs ∷ []) × IsShallowText (main_text names procs)
    × (length (main_text names procs) ≤ MAX_FILE_BYTES)

pub same_text : AreRead → (k l : Command) → procs_text k.names k.procs ≡ procs_text l.names l.procs → k ≡ l
same_text law k l e =
    let read = law k.names k.procs k.valid in
    let other = law l.names l.procs l.valid in
    let same : main_text l.names l.procs ≡ main_text k.names k.procs =
    ap (λ (t : List ℕ). codes "main := " ++ t ++ codes ".") (sym e) in
    let both = one_file (main_text k.names k.procs) k.names l.names (main_sentence k.procs ∷ []) (main_sentence l.procs ∷ [])
    read.0 read.1 (subst (λ (t : List ℕ). IsTextOfBytes t l.names (main_sentence l.procs ∷ [])) same other.0) in
    same_command k l both.0 (same_main k.procs l.procs both.1)
