-- A text of `main` alone, whose factors are all written out: its tokens are those of its processes.
use Rattle.std.proofs.Common.{◌≡◌, ℕ, ◌<◌, List, [], ◌∷◌, ◌++◌, map, length, Option, Some, None, refl, ◌∙◌, ap, arith}
use Rattle.std.specs.Prelude.{◌||◌, IsTrue, is_some}
use Rattle.std.specs.List.{AllByRecursion}
use Rattle.cmd_tree.specs.declared.tree.Mark.{Mark}
use Rattle.cmd_tree.specs.declared.tree.Proc.{Proc}
use Rattle.cmd_tree.specs.Tree.{TItem, TSeq, TSeqs, TBurst, TAlt, Stop, Or, Done, Then}
use Rattle.cmd_tree.specs.Limits.{AreSeqs, IsFull, IsProc, count_of}
use Rattle.cmd_text.specs.declared.file.Sentence.{Sentence}
use Rattle.cmd_text.specs.declared.file.Factor.{Factor}
use Rattle.cmd_text.specs.declared.file.Factor.TheVariants.{Own}
use Rattle.cmd_text.specs.Token.{Token, Main, Pref, Define, Dot, Semi, Bar, Par, Open, Close, LeftSq, RightSq, Star, End}
use Rattle.cmd_text.specs.Process.{mark, more_marks, burst, seq, more, item, among, more_among, process, body_of, Written, IsWritten, proc_of}
use Rattle.cmd_text.specs.File.{Placed, Hint, any, sited, Match, Piece, Process, Call, factor_of, IsPiece, sentence_of, Definition, defined, IsWeave, plain, more_pieces, weave, file, IsTextOf}
use Rattle.cmd_text.specs.Text.{tokens}

abbrev pub toks : List Hint → List Token
toks hs = map (λ h. h.tok) hs

matched : (hs : List Hint) (xs : List Placed) → Match hs xs → tokens xs ≡ toks hs
matched [] [] m = refl
matched [] (x ∷ xs) m = absurd m
matched (h ∷ hs) [] m = absurd m
matched (h ∷ hs) (x ∷ xs) m = ap (λ t. t ∷ tokens xs) m.0 ∙ ap (λ u. h.tok ∷ u) (matched hs xs m.2)

plain_toks : (ts : List Token) (r : List Hint) → toks (plain ts r) ≡ ts ++ toks r
plain_toks [] r = refl
plain_toks (t ∷ ts) r = ap (λ u. t ∷ u) (plain_toks ts r)

-- what is put before a list is put before it with more behind
module _ (name : ℕ → List ℕ) where
  marks_before : (ms : List Mark) (r q : List Token) → more_marks name ms r ++ q ≡ more_marks name ms (r ++ q)
  marks_before [] r q = refl
  marks_before (m ∷ ms) r q = ap (λ u. Par ∷ mark name m u) (marks_before ms r q)

  burst_before : (ms : List Mark) (r q : List Token) → burst name ms r ++ q ≡ burst name ms (r ++ q)
  burst_before [] r q = refl
  burst_before (m ∷ []) r q = refl
  burst_before (m ∷ n ∷ ms) r q = ap (λ u. Open ∷ mark name m u) (marks_before (n ∷ ms) (Close ∷ r) q)

  mutual
    seq_before : (s : TSeq) (r q : List Token) → seq name s r ++ q ≡ seq name s (r ++ q)
    seq_before Done r q = refl
    seq_before (Then i s) r q = item_before i (more name s r) q ∙ ap (λ u. item name i u) (more_before s r q)

    more_before : (s : TSeq) (r q : List Token) → more name s r ++ q ≡ more name s (r ++ q)
    more_before Done r q = refl
    more_before (Then i s) r q = ap (λ u. Semi ∷ u) (item_before i (more name s r) q ∙ ap (λ u. item name i u) (more_before s r q))

    item_before : (i : TItem) (r q : List Token) → item name i r ++ q ≡ item name i (r ++ q)
    item_before (TBurst ms) r q = burst_before ms r q
    item_before (TAlt ss) r q = ap (λ u. Open ∷ u) (among_before ss (Close ∷ r) q)

    among_before : (ss : TSeqs) (r q : List Token) → among name ss r ++ q ≡ among name ss (r ++ q)
    among_before Stop r q = refl
    among_before (Or s ss) r q = seq_before s (more_among name ss r) q ∙ ap (λ u. seq name s u) (more_among_before ss r q)

    more_among_before : (ss : TSeqs) (r q : List Token) → more_among name ss r ++ q ≡ more_among name ss (r ++ q)
    more_among_before Stop r q = refl
    more_among_before (Or s ss) r q = ap (λ u. Bar ∷ u) (seq_before s (more_among name ss r) q ∙ ap (λ u. seq name s u) (more_among_before ss r q))

  process_before : (lead : Option TSeq) (body : TSeqs) (r q : List Token) → process name lead body r ++ q ≡ process name lead body (r ++ q)
  process_before None body r q = ap (λ u. Star ∷ LeftSq ∷ u) (among_before body (RightSq ∷ r) q)
  process_before (Some l) body r q = ap (λ u. LeftSq ∷ u) (seq_before l (Semi ∷ Star ∷ LeftSq ∷ among name body (RightSq ∷ RightSq ∷ r)) q
      ∙ ap (λ u. seq name l (Semi ∷ Star ∷ LeftSq ∷ u)) (among_before body (RightSq ∷ RightSq ∷ r) q))

  -- the tokens of written processes after the first
  abbrev pub more_written : List Written → List Token → List Token
  more_written [] r = r
  more_written (w ∷ ws) r = Par ∷ Pref ∷ process name w.lead w.body (more_written ws r)

  -- processes joined by two bars
  abbrev pub all_written : List Written → List Token → List Token
  all_written [] r = r
  all_written (w ∷ ws) r = Pref ∷ process name w.lead w.body (more_written ws r)

  -- pieces that are all processes
  record Pieces (ps : List Piece) (procs : List Proc) : Type 0 where
    ws : List Written
    written : AllByRecursion IsWritten ws
    same : map proc_of ws ≡ procs
    some : 0 < length ps → 0 < length ws
    spelled : (r : List Hint) → toks (more_pieces name ps r) ≡ more_written ws (toks r)
    first : (r : List Hint) → toks (weave name ps r) ≡ all_written ws (toks r)

  pub process_toks : (w : Written) (r : List Hint) → toks (plain (process name w.lead w.body []) r) ≡ process name w.lead w.body (toks r)
  process_toks w r = plain_toks (process name w.lead w.body []) r ∙ process_before w.lead w.body [] (toks r)

  pieces_next : (w : Written) (ps : List Piece) (q : Proc) (qs : List Proc) → proc_of w ≡ q → IsWritten w → Pieces ps qs → Pieces (Process w ∷ ps) (q ∷ qs)
  pieces_next w ps q qs e h p =
      let spells : (r : List Hint) → toks (weave name (Process w ∷ ps) r) ≡ all_written (w ∷ p.ws) (toks r) =
      λ r. ap (λ u. Pref ∷ u) (process_toks w (more_pieces name ps r) ∙ ap (λ u. process name w.lead w.body u) (p.spelled r)) in
      record {
        ws = w ∷ p.ws;
        written = (h, p.written);
        same = ap (λ u. u ∷ map proc_of p.ws) e ∙ ap (λ u. q ∷ u) p.same;
        some = λ l. omega arith;
        spelled = λ r. ap (λ u. Par ∷ u) (spells r);
        first = spells;
      }

  pieces : (ps : List Piece) (procs : List Proc) → map factor_of ps ≡ map Own procs → AllByRecursion IsPiece ps → Pieces ps procs
  pieces [] [] e h = record { ws = []; written = tt; same = refl; some = λ l. l; spelled = λ r. refl; first = λ r. refl }
  pieces [] (q ∷ qs) e h = absurd (cc)
  pieces (p ∷ ps) [] e h = absurd (cc)
  pieces (Process w ∷ ps) (q ∷ qs) e h = pieces_next w ps q qs (cc) h.0 (pieces ps qs (cc) h.1)
  pieces (Call n ∷ ps) (q ∷ qs) e h = absurd (cc)

  -- the tokens of a text of `main` alone
  pub record MainSpelled (ts : List Token) (procs : List Proc) : Type 0 where
    pub ws : List Written
    pub written : AllByRecursion IsWritten ws
    pub same : map proc_of ws ≡ procs
    pub some : 0 < length ws
    pub is : ts ≡ Main ∷ Define ∷ all_written ws (Dot ∷ End ∷ [])

  by_pieces : (xs : List Placed) (at : ℕ) (ps : List Piece) (procs : List Proc) → Pieces ps procs → 0 < length ps → Match (sited Main at ∷ any Define ∷ weave name ps (any Dot ∷ any End ∷ [])) xs → MainSpelled (tokens xs) procs
  by_pieces xs at ps procs p l m = record {
    ws = p.ws;
    written = p.written;
    same = p.same;
    some = p.some l;
    is = matched (sited Main at ∷ any Define ∷ weave name ps (any Dot ∷ any End ∷ [])) xs m ∙ ap (λ u. Main ∷ Define ∷ u) (p.first (any Dot ∷ any End ∷ []));
  }

  by_text : (xs : List Placed) (s : Sentence) (procs : List Proc) (ds : List Definition) (at : ℕ) (ps : List Piece) → s.factors ≡ map Own procs → map defined ds ++ sentence_of (record { name = None; at = at }) (map factor_of ps) ∷ [] ≡ s ∷ [] → IsWeave ps → Match (file name (record { definitions = ds; at = at; pieces = ps }) []) xs → MainSpelled (tokens xs) procs
  by_text xs s procs [] at ps f e w m =
      let same : map factor_of ps ≡ s.factors = ap (λ l. factors_in l) e in
      by_pieces xs at ps procs (pieces ps procs (same ∙ f) w.1) w.0 m
    where
      factors_in : List Sentence → List Factor
      factors_in [] = []
      factors_in (t ∷ ts) = t.factors
  by_text xs s procs (d ∷ []) at ps f e w m = absurd (cc)
  by_text xs s procs (d ∷ c ∷ ds) at ps f e w m = absurd (cc)

  pub main_spelled : (xs : List Placed) (s : Sentence) (procs : List Proc) → s.factors ≡ map Own procs → IsTextOf name xs (s ∷ []) → MainSpelled (tokens xs) procs
  main_spelled xs s procs f t = by_text xs s procs t.text.definitions t.text.at t.text.pieces f t.sentences t.whole.main t.tokens

-- ---- what is written has the shape of processes
full_body : (body : TSeqs) → 0 < count_of body → AreSeqs body → IsFull (body_of body)
full_body Stop l h = absurd (omega (arith, l))
full_body (Or s Stop) l h = h.0
full_body (Or s (Or t ss)) l h = ((omega arith, h), tt)

lead_or : (o : Option TSeq) (b : TSeq) → IsTrue (is_some o || is_some (Some b))
lead_or None b = refl
lead_or (Some l) b = refl

pub shaped_procs : (ws : List Written) → AllByRecursion IsWritten ws → AllByRecursion IsProc (map proc_of ws)
shaped_procs [] h = tt
shaped_procs (w ∷ ws) h = ((lead_or w.lead (body_of w.body), h.0.lead, full_body w.body h.0.some h.0.body), shaped_procs ws h.1)

pub bodied_procs : (ws : List Written) → AllByRecursion (λ p. IsTrue (is_some p.body)) (map proc_of ws)
bodied_procs [] = tt
bodied_procs (w ∷ ws) = (refl, bodied_procs ws)
