-- What holds of the processes and names of a text of `main` alone, whose factors are all written out.
use Rattle.std.proofs.Common.{◌≡◌, ℕ, ◌+◌, ◌≤◌, ◌<◌, List, [], ◌∷◌, map, length, refl, sym, ◌∙◌, ap, subst, arith}
use Rattle.std.specs.Prelude.{IsTrue, is_some}
use Rattle.std.specs.List.{AllByRecursion}
use Rattle.cmd_tree.specs.declared.tree.Proc.{Proc}
use Rattle.cmd_tree.specs.Limits.{IsProc, IsNumbered, marks_of_all, places_of_all, brackets_of_proc, is_name}
use Rattle.cmd_text.specs.declared.file.Sentence.{Sentence}
use Rattle.cmd_text.specs.declared.file.Factor.TheVariants.{Own}
use Rattle.cmd_text.specs.Token.{Main, Define, Dot, End}
use Rattle.cmd_text.specs.Process.{Written, IsWritten, proc_of}
use Rattle.cmd_text.specs.File.{Placed}
use Rattle.cmd_text.specs.Names.{name_in, names_after}
use Rattle.cmd_text.specs.Text.{tokens, IsToken}
use Rattle.cmd_text.specs.Fault.{IsShallow}
use Rattle.cmd_text.specs.Scan.{Between, scan}
use Rattle.cmd_text.specs.Source.{IsTextOfBytes, IsShallowText}
use Rattle.cmd_text.proofs.NamesKept.{Apart, apart_after}
use Rattle.cmd_text.proofs.Scanned.{proper_scan}
use Rattle.cmd_text.proofs.MainTokens.{all_written, main_spelled, shaped_procs, bodied_procs}
use Rattle.cmd_text.proofs.OpenBrackets.{written_shallow}
use Rattle.cmd_text.proofs.Numbered.{main_hears, marks_numbered, named_after}
use Rattle.cmd_text.proofs.Lengths.{written_long, scanned_few}

-- all but the limits on numbers
pub record MainRead (bytes : List ℕ) (names : List (List ℕ)) (procs : List Proc) : Type 0 where
  pub some : 0 < length procs
  pub shaped : AllByRecursion IsProc procs
  pub bodied : AllByRecursion (λ p. IsTrue (is_some p.body)) procs
  pub numbered : IsNumbered 0 (marks_of_all procs) (length names)
  pub formed : AllByRecursion (λ n. IsTrue (is_name n)) names
  pub few_brackets : AllByRecursion (λ p. brackets_of_proc p ≤ 64) procs
  pub places : places_of_all procs ≤ length bytes

some_mapped : (ws : List Written) → 0 < length ws → 0 < length (map proc_of ws)
some_mapped [] l = l
some_mapped (w ∷ ws) l = omega arith

tokens_length : (xs : List Placed) → length (tokens xs) ≡ length xs
tokens_length [] = refl
tokens_length (x ∷ xs) = omega (arith, tokens_length xs)

few_places : (p ts k n : ℕ) → p + 2 ≤ ts → ts + 2 ≡ k → k ≤ n + 1 → p ≤ n
few_places p ts k n f g h = omega (arith, f, g, h)

-- the same by the processes as they are written
read_written : (bytes : List ℕ) (names : List (List ℕ)) (ws : List Written) → names ≡ names_after [] End (tokens (scan Between 0 bytes).toks)
    → tokens (scan Between 0 bytes).toks ≡ Main ∷ Define ∷ all_written (name_in names) ws (Dot ∷ End ∷ [])
    → IsShallowText bytes → 0 < length ws → AllByRecursion IsWritten ws → MainRead bytes names (map proc_of ws)
read_written bytes names ws e f h l w =
    let xs = (scan Between 0 bytes).toks in
    let proper : AllByRecursion IsToken xs = (proper_scan bytes Between 0 tt).tokens in
    let shallow : IsShallow 0 (Main ∷ Define ∷ all_written (name_in names) ws (Dot ∷ End ∷ [])) = subst (λ ts. IsShallow 0 ts) f h in
    let same : length (tokens xs) ≡ length (Main ∷ Define ∷ all_written (name_in names) ws (Dot ∷ End ∷ [])) = ap length f in
    let many : length (all_written (name_in names) ws (Dot ∷ End ∷ [])) + 2 ≡ length xs = omega (arith, same, tokens_length xs) in
    record {
      some = some_mapped ws l;
      shaped = shaped_procs ws w;
      bodied = bodied_procs ws;
      numbered = marks_numbered names (marks_of_all (map proc_of ws)) (subst (λ ns. Apart ns) (sym e) (apart_after xs [] End tt tt proper)) (sym (main_hears (name_in names) ws) ∙ ap (λ ts. names_after [] End ts) (sym f) ∙ sym e);
      formed = subst (λ ns. AllByRecursion (λ n. IsTrue (is_name n)) ns) (sym e) (named_after xs [] End tt tt proper);
      few_brackets = written_shallow (name_in names) ws (Dot ∷ End ∷ []) shallow.1.1;
      places = few_places (places_of_all (map proc_of ws)) (length (all_written (name_in names) ws (Dot ∷ End ∷ []))) (length xs) (length bytes) (written_long (name_in names) ws (Dot ∷ End ∷ [])) many (scanned_few bytes);
    }

pub main_read : (bytes : List ℕ) (names : List (List ℕ)) (s : Sentence) (procs : List Proc) → s.factors ≡ map Own procs → IsTextOfBytes bytes names (s ∷ []) → IsShallowText bytes → MainRead bytes names procs
main_read bytes names s procs f t h =
    let m = main_spelled (name_in names) (scan Between 0 bytes).toks s procs f t.text.spelled in
    subst (λ ps. MainRead bytes names ps) m.same (read_written bytes names m.ws t.text.named m.is h m.some m.written)
