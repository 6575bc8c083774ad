-- The canonical text of a command, after `main := ` and before a dot, is scanned as the tokens of that command.
use Rattle.std.proofs.Common.{◌≡◌, ℕ, zero, suc, ◌+◌, ◌<◌, ◌≤◌, List, [], ◌∷◌, ◌++◌, map, length, max, Option, Some, None, refl, sym, subst, arith}
use Rattle.std.specs.Prelude.{IsTrue, is_some, slice_index_or, codes}
use Rattle.std.specs.List.{AllByRecursion}
use Rattle.cmd_tree.specs.declared.tree.Dir.{Dir}
use Rattle.cmd_tree.specs.declared.tree.Dir.TheVariants.{Input, Output}
use Rattle.cmd_tree.specs.declared.tree.Mark.{Mark}
use Rattle.cmd_tree.specs.declared.tree.Proc.{Proc}
use Rattle.cmd_tree.specs.Tree.{TItem, TSeq, TSeqs, TBurst, TAlt, Stop, Or, Done, Then, marks_of, marks_in, marks_among}
use Rattle.cmd_tree.specs.Limits.{of_part, marks_of_proc, marks_of_all, IsSeq, IsItem, AreSeqs, IsFull, IsPart, IsProc, IsNumbered, IsCommand, is_name}
use Rattle.cmd_text.specs.Token.{Token, Main, Pref, Define, Dot, Semi, Open, Close, LeftSq, RightSq, Star, Ask, Bang, End, Word}
use Rattle.cmd_text.specs.Process.{sign_of, mark, more_marks, burst, seq, more, item, among, more_among, process}
use Rattle.cmd_text.specs.File.{Placed}
use Rattle.cmd_text.specs.Names.{name_in}
use Rattle.cmd_text.specs.Text.{tokens}
use Rattle.cmd_text.specs.Canonical.{sign, mark_text, marks_led, burst_text, items_led, item_text, seqs_led, seq_text, body_text, star_text, parts_text, proc_text, procs_led, procs_text}
use Rattle.cmd_text.specs.Printed.{main_text}
use Rattle.cmd_text.specs.Scan.{Between, scan}
use Rattle.cmd_text.proofs.NamesKept.{true_false}
use Rattle.cmd_text.proofs.MainTokens.{more_written, all_written}
use Rattle.cmd_text.proofs.AsWritten.{alternatives, written_of}
use Rattle.cmd_text.proofs.Spells.{Reads, Spells, Starts, regroup, reads_then, sign_then, par_then, bar_then, dot_last, pref_then, name_then}

all_left : {A : Type 0} → (P : A → Type 0) (xs ys : List A) → AllByRecursion P (xs ++ ys) → AllByRecursion P xs
all_left P [] ys h = tt
all_left P (x ∷ xs) ys h = (h.0, all_left P xs ys h.1)

all_right : {A : Type 0} → (P : A → Type 0) (xs ys : List A) → AllByRecursion P (xs ++ ys) → AllByRecursion P ys
all_right P [] ys h = h
all_right P (x ∷ xs) ys h = all_right P xs ys h.1

-- ---- brackets and signs around a text
open_then : (r : List Token) (q : List ℕ) → Spells r q → Starts (Open ∷ r) (40 ∷ q)
open_then r q h = record { spells = sign_then 40 Open r q (λ at next. refl) h; unbarred = refl }

close_then : (r : List Token) (q : List ℕ) → Spells r q → Spells (Close ∷ r) (41 ∷ q)
close_then r q h = sign_then 41 Close r q (λ at next. refl) h

semi_then : (r : List Token) (q : List ℕ) → Spells r q → Spells (Semi ∷ r) (59 ∷ q)
semi_then r q h = sign_then 59 Semi r q (λ at next. refl) h

left_then : (r : List Token) (q : List ℕ) → Spells r q → Spells (LeftSq ∷ r) (91 ∷ q)
left_then r q h = sign_then 91 LeftSq r q (λ at next. refl) h

right_then : (r : List Token) (q : List ℕ) → Spells r q → Spells (RightSq ∷ r) (93 ∷ q)
right_then r q h = sign_then 93 RightSq r q (λ at next. refl) h

star_then : (r : List Token) (q : List ℕ) → Spells r q → Spells (Star ∷ r) (42 ∷ q)
star_then r q h = sign_then 42 Star r q (λ at next. refl) h

-- a name and its sign
signed : (n : List ℕ) (d : Dir) (r : List Token) (q : List ℕ) → IsTrue (is_name n) → Spells r q → Starts (Word n ∷ sign_of d ∷ r) (n ++ (sign d ++ q))
signed n Input r q f h = name_then n 63 (Ask ∷ r) q f refl (sign_then 63 Ask r q (λ at next. refl) h)
signed n Output r q f h = name_then n 33 (Bang ∷ r) q f refl (sign_then 33 Bang r q (λ at next. refl) h)

module _ (names : List (List ℕ)) where
  -- the symbol has a name
  record IsNamed (m : Mark) : Type 0 where
    same : slice_index_or names m.sym.0 [] ≡ name_in names m.sym.0
    formed : IsTrue (is_name (name_in names m.sym.0))

  abbrev Named : List Mark → Type 0
  Named ms = AllByRecursion IsNamed ms

  named_left : (ms ks : List Mark) → Named (ms ++ ks) → Named ms
  named_left ms ks n = all_left IsNamed ms ks n

  named_right : (ms ks : List Mark) → Named (ms ++ ks) → Named ks
  named_right ms ks n = all_right IsNamed ms ks n

  mark_spelled : (m : Mark) (r : List Token) (q : List ℕ) → IsNamed m → Spells r q → Starts (mark (name_in names) m r) (mark_text names m ++ q)
  mark_spelled m r q n h = subst (λ u. Starts (mark (name_in names) m r) ((u ++ sign m.dir) ++ q)) (sym n.same)
      (regroup (λ u. Starts (mark (name_in names) m r) u) (name_in names m.sym.0) (sign m.dir) q (signed (name_in names m.sym.0) m.dir r q n.formed h))

  marks_spelled : (ms : List Mark) (r : List Token) (q : List ℕ) → Named ms → Spells r q → Spells (more_marks (name_in names) ms r) (marks_led names (codes "||") ms ++ q)
  marks_spelled [] r q n h = h
  marks_spelled (m ∷ ms) r q n h =
      let rest = more_marks (name_in names) ms r in
      let led = marks_led names (codes "||") ms in
      par_then (mark (name_in names) m rest) ((mark_text names m ++ led) ++ q)
      (regroup (λ u. Spells (mark (name_in names) m rest) u) (mark_text names m) led q (mark_spelled m rest (led ++ q) n.0 (marks_spelled ms r q n.1 h)).spells)

  burst_spelled : (ms : List Mark) (r : List Token) (q : List ℕ) → 0 < length ms → Named ms → Spells r q → Starts (burst (name_in names) ms r) (burst_text names ms ++ q)
  burst_spelled [] r q l n h = absurd (omega (arith, l))
  burst_spelled (m ∷ []) r q l n h = mark_spelled m r q n.0 h
  burst_spelled (m ∷ k ∷ ms) r q l n h =
      let rest = more_marks (name_in names) (k ∷ ms) (Close ∷ r) in
      let led = marks_led names (codes "||") (k ∷ ms) in
      let inner = mark (name_in names) m rest in
      open_then inner (((mark_text names m ++ led) ++ codes ")") ++ q)
      (regroup (λ u. Spells inner u) (mark_text names m ++ led) (codes ")") q (regroup (λ u. Spells inner u) (mark_text names m) led (41 ∷ q)
      (mark_spelled m rest (led ++ 41 ∷ q) n.0 (marks_spelled (k ∷ ms) (Close ∷ r) (41 ∷ q) n.1 (close_then r q h))).spells))

  mutual
    seq_spelled : (s : TSeq) (r : List Token) (q : List ℕ) → IsFull s → Named (marks_of s) → Spells r q → Starts (seq (name_in names) s r) (items_led names [] s ++ q)
    seq_spelled Done r q f n h = absurd f
    seq_spelled (Then i s) r q f n h =
        let rest = more (name_in names) s r in
        let led = items_led names (codes ";") s in
        regroup (λ u. Starts (item (name_in names) i rest) u) (item_text names i) led q
        (item_spelled i rest (led ++ q) f.0 (named_left (marks_in i) (marks_of s) n) (more_spelled s r q f.1 (named_right (marks_in i) (marks_of s) n) h))

    more_spelled : (s : TSeq) (r : List Token) (q : List ℕ) → IsSeq s → Named (marks_of s) → Spells r q → Spells (more (name_in names) s r) (items_led names (codes ";") s ++ q)
    more_spelled Done r q f n h = h
    more_spelled (Then i s) r q f n h =
        let rest = more (name_in names) s r in
        let led = items_led names (codes ";") s in
        semi_then (item (name_in names) i rest) ((item_text names i ++ led) ++ q) (regroup (λ u. Spells (item (name_in names) i rest) u) (item_text names i) led q
        (item_spelled i rest (led ++ q) f.0 (named_left (marks_in i) (marks_of s) n) (more_spelled s r q f.1 (named_right (marks_in i) (marks_of s) n) h)).spells)

    item_spelled : (i : TItem) (r : List Token) (q : List ℕ) → IsItem i → Named (marks_in i) → Spells r q → Starts (item (name_in names) i r) (item_text names i ++ q)
    item_spelled (TBurst ms) r q f n h = burst_spelled ms r q f n h
    item_spelled (TAlt ss) r q f n h =
        let inner = among (name_in names) ss (Close ∷ r) in
        open_then inner ((seqs_led names [] ss ++ codes ")") ++ q) (regroup (λ u. Spells inner u) (seqs_led names [] ss) (codes ")") q (among_spelled ss (Close ∷ r) (41 ∷ q) f.1 n (close_then r q h)))

    among_spelled : (ss : TSeqs) (r : List Token) (q : List ℕ) → AreSeqs ss → Named (marks_among ss) → Spells r q → Spells (among (name_in names) ss r) (seqs_led names [] ss ++ q)
    among_spelled Stop r q f n h = h
    among_spelled (Or s ss) r q f n h =
        let rest = more_among (name_in names) ss r in
        let led = seqs_led names (codes "|") ss in
        regroup (λ u. Spells (seq (name_in names) s rest) u) (items_led names [] s) led q
        (seq_spelled s rest (led ++ q) f.0 (named_left (marks_of s) (marks_among ss) n) (more_among_spelled ss r q f.1 (named_right (marks_of s) (marks_among ss) n) h)).spells

    more_among_spelled : (ss : TSeqs) (r : List Token) (q : List ℕ) → AreSeqs ss → Named (marks_among ss) → Spells r q → Spells (more_among (name_in names) ss r) (seqs_led names (codes "|") ss ++ q)
    more_among_spelled Stop r q f n h = h
    more_among_spelled (Or s ss) r q f n h =
        let rest = more_among (name_in names) ss r in
        let led = seqs_led names (codes "|") ss in
        bar_then (seq (name_in names) s rest) ((items_led names [] s ++ led) ++ q) (regroup (λ u. Starts (seq (name_in names) s rest) u) (items_led names [] s) led q
        (seq_spelled s rest (led ++ q) f.0 (named_left (marks_of s) (marks_among ss) n) (more_among_spelled ss r q f.1 (named_right (marks_of s) (marks_among ss) n) h)))

  -- a body that is one choice alone has no round brackets
  body_spelled : (s : TSeq) (r : List Token) (q : List ℕ) → IsFull s → Named (marks_of s) → Spells r q → Spells (among (name_in names) (alternatives s) r) (body_text names s ++ q)
  body_spelled Done r q f n h = absurd f
  body_spelled (Then (TBurst ms) Done) r q f n h = (burst_spelled ms r q f.0 (named_left ms [] n) h).spells
  body_spelled (Then (TBurst ms) (Then j s)) r q f n h = (seq_spelled (Then (TBurst ms) (Then j s)) r q f n h).spells
  body_spelled (Then (TAlt ss) Done) r q f n h = among_spelled ss r q f.0.1 (named_left (marks_among ss) [] n) h
  body_spelled (Then (TAlt ss) (Then j s)) r q f n h = (seq_spelled (Then (TAlt ss) (Then j s)) r q f n h).spells

  star_spelled : (s : TSeq) (r : List Token) (q : List ℕ) → IsFull s → Named (marks_of s) → Spells r q → Spells (Star ∷ LeftSq ∷ among (name_in names) (alternatives s) (RightSq ∷ r)) (star_text names s ++ q)
  star_spelled s r q f n h =
      let inner = among (name_in names) (alternatives s) (RightSq ∷ r) in
      let text = (body_text names s ++ codes "]") ++ q in
      star_then (LeftSq ∷ inner) (91 ∷ text) (left_then inner text
      (regroup (λ u. Spells inner u) (body_text names s) (codes "]") q (body_spelled s (RightSq ∷ r) (93 ∷ q) f n (right_then r q h))))

  process_spelled : (lead body : Option TSeq) (r : List Token) (q : List ℕ) → IsTrue (is_some body) → IsPart lead → IsPart body → Named (of_part [] marks_of lead ++ of_part [] marks_of body) → Spells r q
      → Spells (Pref ∷ process (name_in names) lead (of_part Stop alternatives body) r) ((codes "pref" ++ parts_text names lead body) ++ q)
  process_spelled None None r q b f g n h = true_false (sym b)
  process_spelled (Some l) None r q b f g n h = true_false (sym b)
  process_spelled None (Some s) r q b f g n h =
      pref_then 42 (Star ∷ LeftSq ∷ among (name_in names) (alternatives s) (RightSq ∷ r)) (91 ∷ ((body_text names s ++ codes "]") ++ q)) refl (star_spelled s r q g n h)
  process_spelled (Some l) (Some s) r q b f g n h =
      let star = Star ∷ LeftSq ∷ among (name_in names) (alternatives s) (RightSq ∷ RightSq ∷ r) in
      let inner = seq (name_in names) l (Semi ∷ star) in
      let starred = semi_then star (star_text names s ++ 93 ∷ q) (star_spelled s (RightSq ∷ r) (93 ∷ q) g (named_right (marks_of l) (marks_of s) n) (right_then r q h)) in
      let led = (seq_spelled l (Semi ∷ star) (59 ∷ (star_text names s ++ 93 ∷ q)) f (named_left (marks_of l) (marks_of s) n) starred).spells in
      let front = (seq_text names l ++ codes ";") ++ star_text names s in
      let text = (front ++ codes "]") ++ q in
      pref_then 91 (LeftSq ∷ inner) text refl (left_then inner text
      (regroup (λ u. Spells inner u) front (codes "]") q
      (regroup (λ u. Spells inner u) (seq_text names l ++ codes ";") (star_text names s) (93 ∷ q)
      (regroup (λ u. Spells inner u) (seq_text names l) (codes ";") (star_text names s ++ 93 ∷ q) led))))

  abbrev AreBodied : List Proc → Type 0
  AreBodied ps = AllByRecursion (λ p. IsTrue (is_some p.body)) ps

  proc_spelled : (p : Proc) (r : List Token) (q : List ℕ) → IsProc p → IsTrue (is_some p.body) → Named (marks_of_proc p) → Spells r q
      → Spells (Pref ∷ process (name_in names) p.lead (of_part Stop alternatives p.body) r) (proc_text names p ++ q)
  proc_spelled p r q f b n h = process_spelled p.lead p.body r q b f.1 f.2 n h

  more_procs_spelled : (ps : List Proc) (r : List Token) (q : List ℕ) → AllByRecursion IsProc ps → AreBodied ps → Named (marks_of_all ps) → Spells r q → Spells (more_written (name_in names) (map written_of ps) r) (procs_led names (codes "||") ps ++ q)
  more_procs_spelled [] r q f b n h = h
  more_procs_spelled (p ∷ ps) r q f b n h =
      let rest = more_written (name_in names) (map written_of ps) r in
      let led = procs_led names (codes "||") ps in
      let here = Pref ∷ process (name_in names) p.lead (of_part Stop alternatives p.body) rest in
      par_then here ((proc_text names p ++ led) ++ q) (regroup (λ u. Spells here u) (proc_text names p) led q
      (proc_spelled p rest (led ++ q) f.0 b.0 (named_left (marks_of_proc p) (marks_of_all ps) n) (more_procs_spelled ps r q f.1 b.1 (named_right (marks_of_proc p) (marks_of_all ps) n) h)))

  procs_spelled : (ps : List Proc) (r : List Token) (q : List ℕ) → AllByRecursion IsProc ps → AreBodied ps → Named (marks_of_all ps) → Spells r q → Spells (all_written (name_in names) (map written_of ps) r) (procs_text names ps ++ q)
  procs_spelled [] r q f b n h = h
  procs_spelled (p ∷ ps) r q f b n h =
      let rest = more_written (name_in names) (map written_of ps) r in
      let led = procs_led names (codes "||") ps in
      let here = Pref ∷ process (name_in names) p.lead (of_part Stop alternatives p.body) rest in
      regroup (λ u. Spells here u) (proc_text names p) led q
      (proc_spelled p rest (led ++ q) f.0 b.0 (named_left (marks_of_proc p) (marks_of_all ps) n) (more_procs_spelled ps r q f.1 b.1 (named_right (marks_of_proc p) (marks_of_all ps) n) h))

-- ---- every symbol of a command has a name
same_name : (names : List (List ℕ)) (i : ℕ) → i < length names → slice_index_or names i [] ≡ name_in names i
same_name [] i l = absurd (omega (arith, l))
same_name (n ∷ ns) zero l = refl
same_name (n ∷ ns) (suc i) l = same_name ns i (omega (arith, l))

formed_name : (names : List (List ℕ)) (i : ℕ) → i < length names → AllByRecursion (λ n. IsTrue (is_name n)) names → IsTrue (is_name (name_in names i))
formed_name [] i l f = absurd (omega (arith, l))
formed_name (n ∷ ns) zero l f = f.0
formed_name (n ∷ ns) (suc i) l f = formed_name ns i (omega (arith, l)) f.1

number_most : (ms : List Mark) (k n : ℕ) → IsNumbered k ms n → k ≤ n
number_most [] k n h = omega (arith, h)
number_most (m ∷ ms) k n h = omega (arith, number_most ms (max k (m.sym.0 + 1)) n h.1)

all_named : (names : List (List ℕ)) (ms : List Mark) (k : ℕ) → IsNumbered k ms (length names) → AllByRecursion (λ n. IsTrue (is_name n)) names → Named names ms
all_named names [] k h f = tt
all_named names (m ∷ ms) k h f =
    let l : m.sym.0 < length names = omega (arith, number_most ms (max k (m.sym.0 + 1)) (length names) h.1) in
    (record { same = same_name names m.sym.0 l; formed = formed_name names m.sym.0 l f }, all_named names ms (max k (m.sym.0 + 1)) h.1 f)

-- ---- the whole text
abbrev pub first_place : List Placed → ℕ
first_place [] = 0
first_place (x ∷ xs) = x.at

pub record ScannedAs (names : List (List ℕ)) (procs : List Proc) : Type 0 where
  pub fault : (scan Between 0 (main_text names procs)).fault ≡ None
  pub toks : tokens (scan Between 0 (main_text names procs)).toks ≡ Main ∷ Define ∷ all_written (name_in names) (map written_of procs) (Dot ∷ End ∷ [])
  pub first : first_place (scan Between 0 (main_text names procs)).toks ≡ 0

pub text_scanned : (names : List (List ℕ)) (procs : List Proc) → IsCommand names procs → ScannedAs names procs
text_scanned names procs c =
    let r = all_written (name_in names) (map written_of procs) (Dot ∷ End ∷ []) in
    let q = procs_text names procs ++ codes "." in
    let body = procs_spelled names procs (Dot ∷ End ∷ []) (codes ".") c.shaped c.bodied (all_named names (marks_of_all procs) 0 c.numbered c.formed) dot_last in
    let whole : Reads (Main ∷ Define ∷ r) (scan Between 0 (main_text names procs)) = reads_then Main 0 (Define ∷ r) (scan Between 5 (codes ":= " ++ q)) (reads_then Define 5 r (scan Between 8 q) (body.read 8)) in
    record { fault = whole.clean; toks = whole.toks; first = refl }
