-- What holds of the names, processes and renamings of a file that was read.
use Rattle.std.proofs.Common.{◌≡◌, ℕ, zero, suc, ◌≤◌, ◌<◌, Bool, true, false, ◌&&◌, List, [], ◌∷◌, ◌++◌, map, length, Option, Some, None, refl, sym, ap, ◌∙◌, subst, arith, append-nil}
use Rattle.std.specs.Prelude.{IsTrue, is_some, if◌then◌else◌}
use Rattle.std.specs.List.{AllByRecursion, IsDistinct, list_any}
use Rattle.std.specs.Str.{bytes_eq}
use Rattle.std.proofs.lemmas.List.{map-append}
use Rattle.cmd_tree.specs.declared.tree.Mark.{Mark}
use Rattle.cmd_tree.specs.declared.tree.Proc.{Proc}
use Rattle.cmd_tree.specs.Tree.{TItem, TSeq, TSeqs, TBurst, TAlt, Stop, Or, Done, Then, marks_of, marks_in, marks_among}
use Rattle.cmd_tree.specs.Limits.{of_part, marks_of_proc, IsProc, brackets_of_proc, is_name}
use Rattle.cmd_text.specs.declared.file.Sentence.{Sentence}
use Rattle.cmd_text.specs.declared.file.Factor.{Factor}
use Rattle.cmd_text.specs.declared.file.Factor.TheVariants.{Own, Named}
use Rattle.cmd_text.specs.declared.file.Rename.{Rename}
use Rattle.cmd_text.specs.Token.{Token, Pref, Dot, Semi, Open, Close, LeftSq, RightSq, Star, Ask, Bang, End, Word}
use Rattle.cmd_text.specs.Process.{more_marks, burst, seq, more, item, among, more_among, process, body_of, Written, IsWritten, proc_of}
use Rattle.cmd_text.specs.File.{Placed, Hint, any, Match, Piece, Process, Call, factor_of, IsPiece, Definition, defined, IsDefinition, plain, more_pairs, pairs, piece, more_pieces, weave, definitions, IsTextOf, sentence_of}
use Rattle.cmd_text.specs.Names.{name_in, with_word, noted, names_after}
use Rattle.cmd_text.specs.Text.{tokens, IsWord, IsToken}
use Rattle.cmd_text.specs.Fault.{IsShallow, opened_by}
use Rattle.cmd_text.specs.Scan.{Between, scan}
use Rattle.cmd_text.proofs.Scanned.{proper_scan}
use Rattle.cmd_text.proofs.MainTokens.{shaped_procs, bodied_procs}
use Rattle.cmd_text.proofs.OpenBrackets.{written_shallow}
use Rattle.cmd_text.proofs.Numbered.{named_after}
use Rattle.cmd_text.proofs.NameTables.{distinct_none, distinct_pushed}
use Rattle.cmd_rename.specs.Symbols.{symbols_in}
use Rattle.cmd_expand.specs.Files.{IsFile}

-- n: how many names there are
pub record GoodProc (n : ℕ) (p : Proc) : Type 0 where
  pub shaped : IsProc p
  pub bodied : IsTrue (is_some p.body)
  pub brackets : brackets_of_proc p ≤ 64
  pub symbols : AllByRecursion (λ a. a < n) (symbols_in (marks_of_proc p))

abbrev pub AreNames : Rename → Type 0
AreNames r = IsTrue (is_name r.fresh) × IsTrue (is_name r.was)

abbrev pub GoodFactor : ℕ → Factor → Type 0
GoodFactor n (Own p) = GoodProc n p
GoodFactor n (Named u) = AllByRecursion AreNames u.renames

abbrev pub GoodSentence : ℕ → Sentence → Type 0
GoodSentence n s = (0 < length s.factors) × AllByRecursion (GoodFactor n) s.factors

pub record GoodFile (names : List (List ℕ)) (ss : List Sentence) : Type 0 where
  pub formed : AllByRecursion (λ n. IsTrue (is_name n)) names
  pub distinct : IsDistinct bytes_eq names
  pub some : 0 < length ss
  pub sentences : AllByRecursion (GoodSentence (length names)) ss

-- ---- parts of a list of tokens
opened_low : (m n : ℕ) (x : Token) → m ≤ n → opened_by m x ≤ opened_by n x
opened_low m n Open l = omega (arith, l)
opened_low m n Close l = omega (arith, l)
opened_low m n x l = l

shallow_low : (ts : List Token) (m n : ℕ) → m ≤ n → IsShallow n ts → IsShallow m ts
shallow_low [] m n l h = tt
shallow_low (x ∷ ts) m n l h = (omega (arith, opened_low m n x l, h.0), shallow_low ts (opened_by m x) (opened_by n x) (opened_low m n x l) h.1)

shallow_front : (xs ys : List Token) (n : ℕ) → IsShallow n (xs ++ ys) → IsShallow n xs
shallow_front [] ys n h = tt
shallow_front (x ∷ xs) ys n h = (h.0, shallow_front xs ys (opened_by n x) h.1)

shallow_back : (xs ys : List Token) (n : ℕ) → IsShallow n (xs ++ ys) → IsShallow 0 ys
shallow_back [] ys n h = shallow_low ys 0 n (omega arith) h
shallow_back (x ∷ xs) ys n h = shallow_back xs ys (opened_by n x) h.1

words_front : (xs ys : List Token) → AllByRecursion IsWord (xs ++ ys) → AllByRecursion IsWord xs
words_front [] ys h = tt
words_front (x ∷ xs) ys h = (h.0, words_front xs ys h.1)

words_back : (xs ys : List Token) → AllByRecursion IsWord (xs ++ ys) → AllByRecursion IsWord ys
words_back [] ys h = h
words_back (x ∷ xs) ys h = words_back xs ys h.1

-- words are names, and no more brackets are open than may be
record Fine (ts : List Token) : Type 0 where
  words : AllByRecursion IsWord ts
  shallow : IsShallow 0 ts

fine_tail : (x : Token) (ts : List Token) → Fine (x ∷ ts) → Fine ts
fine_tail x ts f = record { words = f.words.1; shallow = shallow_low ts 0 (opened_by 0 x) (omega arith) f.shallow.1 }

fine_front : (xs ys : List Token) → Fine (xs ++ ys) → Fine xs
fine_front xs ys f = record { words = words_front xs ys f.words; shallow = shallow_front xs ys 0 f.shallow }

fine_back : (xs ys : List Token) → Fine (xs ++ ys) → Fine ys
fine_back xs ys f = record { words = words_back xs ys f.words; shallow = shallow_back xs ys 0 f.shallow }

-- ---- the symbols of a process have names
all_both : {A : Type 0} → (P : A → Type 0) (xs ys : List A) → AllByRecursion P xs → AllByRecursion P ys → AllByRecursion P (xs ++ ys)
all_both P [] ys h k = k
all_both P (x ∷ xs) ys h k = (h.0, all_both P xs ys h.1 k)

module _ (name : ℕ → List ℕ) where
  abbrev IsCalled : ℕ → Type 0
  IsCalled a = IsTrue (is_name (name a))

  abbrev AreCalled : List Mark → Type 0
  AreCalled ms = AllByRecursion IsCalled (symbols_in ms)

  abbrev Words : List Token → Type 0
  Words ts = AllByRecursion IsWord ts

  called_both : (ms ks : List Mark) → AreCalled ms → AreCalled ks → AreCalled (ms ++ ks)
  called_both ms ks g h = subst (λ (u : List ℕ). AllByRecursion IsCalled u) (sym (map-append (λ (m : Mark). m.sym.0) ms ks)) (all_both IsCalled (symbols_in ms) (symbols_in ks) g h)

  marks_called : (ms : List Mark) (r : List Token) → Words (more_marks name ms r) → AreCalled ms × Words r
  marks_called [] r h = (tt, h)
  marks_called (m ∷ ms) r h = let k = marks_called ms r h.1.1.1 in ((h.1.0, k.0), k.1)

  burst_called : (ms : List Mark) (r : List Token) → Words (burst name ms r) → AreCalled ms × Words r
  burst_called [] r h = (tt, h)
  burst_called (m ∷ []) r h = ((h.0, tt), h.1.1)
  burst_called (m ∷ n ∷ ms) r h = let k = marks_called (n ∷ ms) (Close ∷ r) h.1.1.1 in ((h.1.0, k.0), k.1.1)

  mutual
    seq_called : (s : TSeq) (r : List Token) → Words (seq name s r) → AreCalled (marks_of s) × Words r
    seq_called Done r h = (tt, h)
    seq_called (Then i s) r h =
        let a = item_called i (more name s r) h in
        let b = more_called s r a.1 in
        (called_both (marks_in i) (marks_of s) a.0 b.0, b.1)

    more_called : (s : TSeq) (r : List Token) → Words (more name s r) → AreCalled (marks_of s) × Words r
    more_called Done r h = (tt, h)
    more_called (Then i s) r h =
        let a = item_called i (more name s r) h.1 in
        let b = more_called s r a.1 in
        (called_both (marks_in i) (marks_of s) a.0 b.0, b.1)

    item_called : (i : TItem) (r : List Token) → Words (item name i r) → AreCalled (marks_in i) × Words r
    item_called (TBurst ms) r h = burst_called ms r h
    item_called (TAlt ss) r h = let a = among_called ss (Close ∷ r) h.1 in (a.0, a.1.1)

    among_called : (ss : TSeqs) (r : List Token) → Words (among name ss r) → AreCalled (marks_among ss) × Words r
    among_called Stop r h = (tt, h)
    among_called (Or s ss) r h =
        let a = seq_called s (more_among name ss r) h in
        let b = more_among_called ss r a.1 in
        (called_both (marks_of s) (marks_among ss) a.0 b.0, b.1)

    more_among_called : (ss : TSeqs) (r : List Token) → Words (more_among name ss r) → AreCalled (marks_among ss) × Words r
    more_among_called Stop r h = (tt, h)
    more_among_called (Or s ss) r h =
        let a = seq_called s (more_among name ss r) h.1 in
        let b = more_among_called ss r a.1 in
        (called_both (marks_of s) (marks_among ss) a.0 b.0, b.1)

  body_called : (body : TSeqs) → AreCalled (marks_among body) → AreCalled (marks_of (body_of body))
  body_called Stop h = tt
  body_called (Or s Stop) h = subst (λ (ms : List Mark). AreCalled ms) (append-nil (marks_of s)) h
  body_called (Or s (Or t ss)) h = subst (λ (ms : List Mark). AreCalled ms) (sym (append-nil (marks_among (Or s (Or t ss))))) h

  process_called : (lead : Option TSeq) (body : TSeqs) → Words (process name lead body []) → AreCalled (of_part [] marks_of lead ++ marks_of (body_of body))
  process_called None body h = body_called body (among_called body (RightSq ∷ []) h.1.1).0
  process_called (Some l) body h =
      let a = seq_called l (Semi ∷ Star ∷ LeftSq ∷ among name body (RightSq ∷ RightSq ∷ [])) h.1 in
      called_both (marks_of l) (marks_of (body_of body)) a.0 (body_called body (among_called body (RightSq ∷ RightSq ∷ []) a.1.1.1.1).0)

-- ---- a symbol that has a name is one of the names
no_letter : {P : Type 0} → (b c : Bool) → ((b && false) && c) ≡ true → P
no_letter true c e = absurd (cc)
no_letter false c e = absurd (cc)

no_name : (bs : List ℕ) → IsTrue (is_name (zero ∷ bs)) → ⊥
no_name bs h = no_letter _ _ h

called_below : (names : List (List ℕ)) (a : ℕ) → IsTrue (is_name (name_in names a)) → a < length names
called_below [] a h = absurd (no_name (a ∷ []) h)
called_below (n ∷ names) zero h = omega arith
called_below (n ∷ names) (suc a) h = omega (arith, called_below names a h)

all_below : (names : List (List ℕ)) (xs : List ℕ) → AllByRecursion (λ a. IsTrue (is_name (name_in names a))) xs → AllByRecursion (λ a. a < length names) xs
all_below names [] h = tt
all_below names (x ∷ xs) h = (called_below names x h.0, all_below names xs h.1)

-- ---- the tokens of a file
abbrev toks : List Hint → List Token
toks hs = map (λ h. h.tok) hs

matched : (hs : List Hint) (xs : List Placed) → Match hs xs → tokens xs ≡ toks hs
matched [] [] m = refl
matched [] (x ∷ xs) m = absurd m
matched (h ∷ hs) [] m = absurd m
matched (h ∷ hs) (x ∷ xs) m = ap (λ t. t ∷ tokens xs) m.0 ∙ ap (λ u. h.tok ∷ u) (matched hs xs m.2)

plain_toks : (ts : List Token) (r : List Hint) → toks (plain ts r) ≡ ts ++ toks r
plain_toks [] r = refl
plain_toks (t ∷ ts) r = ap (λ u. t ∷ u) (plain_toks ts r)

more_pairs_fine : (rs : List Rename) (r : List Hint) → Fine (toks (more_pairs rs r)) → AllByRecursion AreNames rs × Fine (toks r)
more_pairs_fine [] r f = (tt, f)
more_pairs_fine (p ∷ rs) r f =
    let k = more_pairs_fine rs r (fine_tail _ _ (fine_tail _ _ (fine_tail _ _ (fine_tail _ _ f)))) in
    (((f.words.1.0, f.words.1.1.1.0), k.0), k.1)

pairs_fine : (rs : List Rename) (r : List Hint) → Fine (toks (pairs rs r)) → AllByRecursion AreNames rs × Fine (toks r)
pairs_fine [] r f = (tt, f)
pairs_fine (p ∷ rs) r f =
    let k = more_pairs_fine rs (any RightSq ∷ r) (fine_tail _ _ (fine_tail _ _ (fine_tail _ _ (fine_tail _ _ f)))) in
    (((f.words.1.0, f.words.1.1.1.0), k.0), fine_tail _ _ k.1)

module _ (names : List (List ℕ)) where
  process_good : (w : Written) → IsWritten w → Fine (Pref ∷ process (name_in names) w.lead w.body []) → GoodProc (length names) (proc_of w)
  process_good w h f = record {
    shaped = (shaped_procs (w ∷ []) (h, tt)).0;
    bodied = (bodied_procs (w ∷ [])).0;
    brackets = (written_shallow (name_in names) (w ∷ []) [] f.shallow).0;
    symbols = all_below names (symbols_in (marks_of_proc (proc_of w))) (process_called (name_in names) w.lead w.body f.words.1);
  }

  piece_fine : (q : Piece) (r : List Hint) → IsPiece q → Fine (toks (piece (name_in names) q r)) → GoodFactor (length names) (factor_of q) × Fine (toks r)
  piece_fine (Process w) r h f =
      let ts = Pref ∷ process (name_in names) w.lead w.body [] in
      let g : Fine (ts ++ toks r) = subst Fine (ap (λ u. Pref ∷ u) (plain_toks (process (name_in names) w.lead w.body []) r)) f in
      (process_good w h (fine_front ts (toks r) g), fine_back ts (toks r) g)
  piece_fine (Call u) r h f = pairs_fine u.renames r (fine_tail _ _ f)

  more_pieces_fine : (qs : List Piece) (r : List Hint) → AllByRecursion IsPiece qs → Fine (toks (more_pieces (name_in names) qs r)) → AllByRecursion (GoodFactor (length names)) (map factor_of qs) × Fine (toks r)
  more_pieces_fine [] r h f = (tt, f)
  more_pieces_fine (q ∷ qs) r h f =
      let a = piece_fine q (more_pieces (name_in names) qs r) h.0 (fine_tail _ _ f) in
      let b = more_pieces_fine qs r h.1 a.1 in
      ((a.0, b.0), b.1)

  weave_fine : (qs : List Piece) (r : List Hint) → AllByRecursion IsPiece qs → Fine (toks (weave (name_in names) qs r)) → AllByRecursion (GoodFactor (length names)) (map factor_of qs) × Fine (toks r)
  weave_fine [] r h f = (tt, f)
  weave_fine (q ∷ qs) r h f =
      let a = piece_fine q (more_pieces (name_in names) qs r) h.0 f in
      let b = more_pieces_fine qs r h.1 a.1 in
      ((a.0, b.0), b.1)

  some_mapped : (qs : List Piece) → 0 < length qs → 0 < length (map factor_of qs)
  some_mapped [] l = l
  some_mapped (q ∷ qs) l = omega arith

  definitions_fine : (ds : List Definition) (r : List Hint) → AllByRecursion IsDefinition ds → Fine (toks (definitions (name_in names) ds r)) → AllByRecursion (GoodSentence (length names)) (map defined ds) × Fine (toks r)
  definitions_fine [] r h f = (tt, f)
  definitions_fine (d ∷ ds) r h f =
      let a = weave_fine d.pieces (any Dot ∷ definitions (name_in names) ds r) h.0.1 (fine_tail _ _ (fine_tail _ _ (fine_tail _ _ f))) in
      let b = definitions_fine ds r h.1 (fine_tail _ _ a.1) in
      (((some_mapped d.pieces h.0.0, a.0), b.0), b.1)

-- ---- names after tokens
distinct_by : (ns : List (List ℕ)) (n : List ℕ) (b : Bool) → list_any (bytes_eq n) ns ≡ b → IsDistinct bytes_eq ns → IsDistinct bytes_eq (if b then ns else ns ++ n ∷ [])
distinct_by ns n true e h = h
distinct_by ns n false e h = distinct_pushed ns n h e

pub distinct_with : (ns : List (List ℕ)) (n : List ℕ) → IsDistinct bytes_eq ns → IsDistinct bytes_eq (if list_any (bytes_eq n) ns then ns else ns ++ n ∷ [])
distinct_with ns n h = distinct_by ns n (list_any (bytes_eq n) ns) refl h

distinct_word : (ns : List (List ℕ)) (p : Token) → IsDistinct bytes_eq ns → IsDistinct bytes_eq (with_word ns p)
distinct_word ns (Word n) h = distinct_with ns n h
distinct_word ns p h = h

distinct_noted : (ns : List (List ℕ)) (p x : Token) → IsDistinct bytes_eq ns → IsDistinct bytes_eq (noted ns p x)
distinct_noted ns p Ask h = distinct_word ns p h
distinct_noted ns p Bang h = distinct_word ns p h
distinct_noted ns p x h = h

distinct_after : (ts : List Token) (ns : List (List ℕ)) (p : Token) → IsDistinct bytes_eq ns → IsDistinct bytes_eq (names_after ns p ts)
distinct_after [] ns p h = h
distinct_after (x ∷ ts) ns p h = distinct_after ts (noted ns p x) x (distinct_noted ns p x h)

some_last : {A : Type 0} → (xs : List A) (x : A) → 0 < length (xs ++ x ∷ [])
some_last [] x = omega arith
some_last (y ∷ xs) x = omega arith

words_tokens : (xs : List Placed) → AllByRecursion IsToken xs → AllByRecursion IsWord (tokens xs)
words_tokens [] h = tt
words_tokens (x ∷ xs) h = (h.0, words_tokens xs h.1)

good_text : (bytes : List ℕ) (names : List (List ℕ)) (ss : List Sentence) (k : IsTextOf (name_in names) (scan Between 0 bytes).toks ss) → names ≡ names_after [] End (tokens (scan Between 0 bytes).toks)
    → IsShallow 0 (tokens (scan Between 0 bytes).toks) → GoodFile names ss
good_text bytes names ss k e h =
    let xs = (scan Between 0 bytes).toks in
    let proper : AllByRecursion IsToken xs = (proper_scan bytes Between 0 tt).tokens in
    let t = k.text in
    let f : Fine (tokens xs) = record { words = words_tokens xs proper; shallow = h } in
    let d = definitions_fine names t.definitions _ k.whole.definitions (subst Fine (matched _ xs k.tokens) f) in
    let m = weave_fine names t.pieces _ k.whole.main.1 (fine_tail _ _ (fine_tail _ _ d.1)) in
    record {
      formed = subst (λ (ns : List (List ℕ)). AllByRecursion (λ n. IsTrue (is_name n)) ns) (sym e) (named_after xs [] End tt tt proper);
      distinct = subst (λ (ns : List (List ℕ)). IsDistinct bytes_eq ns) (sym e) (distinct_after (tokens xs) [] End distinct_none);
      some = subst (λ (us : List Sentence). 0 < length us) k.sentences (some_last (map defined t.definitions) (sentence_of (record { name = None; at = t.at }) (map factor_of t.pieces)));
      sentences = subst (λ (us : List Sentence). AllByRecursion (GoodSentence (length names)) us) k.sentences
          (all_both (GoodSentence (length names)) (map defined t.definitions) (sentence_of (record { name = None; at = t.at }) (map factor_of t.pieces) ∷ []) d.0 ((some_mapped names t.pieces k.whole.main.0, m.0), tt));
    }

pub good_file : (names : List (List ℕ)) (ss : List Sentence) → IsFile names ss → GoodFile names ss
good_file names ss f = good_text f.bytes names ss f.text.text.spelled f.text.text.named f.shallow
