-- The tokens of `main` alone, before processes as they are written, are a text of those processes.
use Rattle.std.proofs.Common.{◌≡◌, ℕ, ◌<◌, List, [], ◌∷◌, map, length, None, refl, sym, ◌∙◌, ap, subst, arith}
use Rattle.std.specs.List.{AllByRecursion}
use Rattle.cmd_tree.specs.declared.tree.Proc.{Proc}
use Rattle.cmd_tree.specs.Limits.{IsCommand}
use Rattle.cmd_text.specs.declared.file.Factor.TheVariants.{Own}
use Rattle.cmd_text.specs.Token.{Token, Main, Pref, Define, Dot, Par, End}
use Rattle.cmd_text.specs.Process.{process, Written, IsWritten, proc_of}
use Rattle.cmd_text.specs.File.{Placed, Hint, any, sited, IsAt, Match, Process, factor_of, IsPiece, sentence_of, plain, more_pieces, weave, IsTextOf}
use Rattle.cmd_text.specs.Names.{name_in}
use Rattle.cmd_text.specs.Text.{tokens}
use Rattle.cmd_text.specs.Printed.{main_text, main_sentence}
use Rattle.cmd_text.specs.Scan.{Between, scan}
use Rattle.cmd_text.proofs.MainTokens.{toks, process_toks, more_written, all_written}
use Rattle.cmd_text.proofs.AsWritten.{written_of}
use Rattle.cmd_text.proofs.Spelling.{first_place, text_scanned}

-- no hint has a place
abbrev AreFree : List Hint → Type 0
AreFree hs = AllByRecursion (λ h. h.at ≡ None) hs

same_head : (a b : Token) (s t : List Token) → a ∷ s ≡ b ∷ t → a ≡ b
same_head a b s t e = cc

same_tail : (a b : Token) (s t : List Token) → a ∷ s ≡ b ∷ t → s ≡ t
same_tail a b s t e = cc

free_match : (hs : List Hint) (xs : List Placed) → AreFree hs → tokens xs ≡ toks hs → Match hs xs
free_match [] [] f e = tt
free_match [] (x ∷ xs) f e = absurd (cc)
free_match (h ∷ hs) [] f e = absurd (cc)
free_match (h ∷ hs) (x ∷ xs) f e = (
  same_head x.tok h.tok (tokens xs) (toks hs) e,
  subst (λ o. IsAt o x.at) (sym f.0) tt,
  free_match hs xs f.1 (same_tail x.tok h.tok (tokens xs) (toks hs) e),
)

first_match : (hs : List Hint) (xs : List Placed) → AreFree hs → tokens xs ≡ Main ∷ toks hs → first_place xs ≡ 0 → Match (sited Main 0 ∷ hs) xs
first_match hs [] f e p = absurd (cc)
first_match hs (x ∷ xs) f e p = (same_head x.tok Main (tokens xs) (toks hs) e, p, free_match hs xs f (same_tail x.tok Main (tokens xs) (toks hs) e))

plain_free : (ts : List Token) (r : List Hint) → AreFree r → AreFree (plain ts r)
plain_free [] r f = f
plain_free (t ∷ ts) r f = (refl, plain_free ts r f)

module _ (name : ℕ → List ℕ) where
  more_free : (ws : List Written) (r : List Hint) → AreFree r → AreFree (more_pieces name (map Process ws) r)
  more_free [] r f = f
  more_free (w ∷ ws) r f = (refl, (refl, plain_free (process name w.lead w.body []) (more_pieces name (map Process ws) r) (more_free ws r f)))

  weave_free : (ws : List Written) (r : List Hint) → AreFree r → AreFree (weave name (map Process ws) r)
  weave_free [] r f = f
  weave_free (w ∷ ws) r f = (more_free (w ∷ ws) r f).1

  more_toks : (ws : List Written) (r : List Hint) → toks (more_pieces name (map Process ws) r) ≡ more_written name ws (toks r)
  more_toks [] r = refl
  more_toks (w ∷ ws) r = ap (λ u. Par ∷ Pref ∷ u) (process_toks name w (more_pieces name (map Process ws) r) ∙ ap (λ u. process name w.lead w.body u) (more_toks ws r))

  weave_toks : (ws : List Written) (r : List Hint) → toks (weave name (map Process ws) r) ≡ all_written name ws (toks r)
  weave_toks [] r = refl
  weave_toks (w ∷ ws) r = ap (λ u. Pref ∷ u) (process_toks name w (more_pieces name (map Process ws) r) ∙ ap (λ u. process name w.lead w.body u) (more_toks ws r))

own_factors : (ws : List Written) → map factor_of (map Process ws) ≡ map Own (map proc_of ws)
own_factors [] = refl
own_factors (w ∷ ws) = ap (λ u. Own (proc_of w) ∷ u) (own_factors ws)

are_pieces : (ws : List Written) → AllByRecursion IsWritten ws → AllByRecursion IsPiece (map Process ws)
are_pieces [] h = tt
are_pieces (w ∷ ws) h = (h.0, are_pieces ws h.1)

some_pieces : (procs : List Proc) → 0 < length procs → 0 < length (map Process (map written_of procs))
some_pieces [] l = l
some_pieces (p ∷ ps) l = omega arith

pub text_of_main : (names : List (List ℕ)) (procs : List Proc) → IsCommand names procs → map proc_of (map written_of procs) ≡ procs → AllByRecursion IsWritten (map written_of procs)
    → IsTextOf (name_in names) (scan Between 0 (main_text names procs)).toks (main_sentence procs ∷ [])
text_of_main names procs c same written =
    let ws = map written_of procs in
    let s = text_scanned names procs c in
    let behind = any Dot ∷ any End ∷ [] in
    record {
      text = record { definitions = []; at = 0; pieces = map Process ws };
      whole = record { definitions = tt; main = (some_pieces procs c.some, are_pieces ws written) };
      sentences = ap (λ fs. sentence_of (record { name = None; at = 0 }) fs ∷ []) (own_factors ws ∙ ap (λ ps. map Own ps) same);
      tokens = first_match (any Define ∷ weave (name_in names) (map Process ws) behind) (scan Between 0 (main_text names procs)).toks (refl, weave_free (name_in names) ws behind (refl, (refl, tt)))
          (s.toks ∙ ap (λ u. Main ∷ Define ∷ u) (sym (weave_toks (name_in names) ws behind))) s.first;
    }
