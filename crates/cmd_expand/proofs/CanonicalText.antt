-- The canonical text of a command, as the one sentence of a file, means the command.
use Rattle.std.proofs.Common.{◌≡◌, ℕ, ◌≤◌, true, false, Bool, List, [], ◌∷◌, ◌++◌, map, length, Option, Some, Result, Ok, Err, refl, sym, ap, subst, ◌∙◌, arith}
use Rattle.std.specs.Prelude.{nat_lt, not, codes, IfSome, if◌then◌else◌}
use Rattle.std.specs.Str.{bytes_eq}
use Rattle.std.proofs.lemmas.Bool.{le-ltb}
use Rattle.std.proofs.lemmas.Slice.Eq.{bytes_eq-Decides}
use Rattle.cmd_tree.specs.declared.tree.Proc.{Proc}
use Rattle.cmd_tree.specs.declared.limits.TheConstants.{MAX_FILE_BYTES, MAX_SYMBOLS, MAX_PROCESSES, MAX_PLACES}
use Rattle.cmd_tree.specs.Limits.{IsCommand, places_of_all}
use Rattle.cmd_tree.specs.declared.command.Command.{Command}
use Rattle.cmd_text.specs.declared.file.File.{File}
use Rattle.cmd_text.specs.declared.file.Sentence.{Sentence}
use Rattle.cmd_text.specs.Canonical.{procs_text}
use Rattle.cmd_text.specs.Source.{IsTextOfBytes, IsShallowText}
use Rattle.cmd_text.specs.Printed.{main_text, main_sentence}
use Rattle.cmd_expand.specs.Files.{IsFile}
use Rattle.cmd_expand.specs.Pairs.{Refused, TooManySymbols, TooManyProcs, TooManyPlaces}
use Rattle.cmd_expand.specs.Expansion.{Meant, expansion}
use Rattle.cmd_expand.specs.Alone.{as_written}
use Rattle.cmd_expand.proofs.Alone.{own_command}

-- the canonical text of what was meant
abbrev text_of : Result Meant Refused → List ℕ
text_of (Ok m) = procs_text m.names m.procs
text_of (Err r) = []

abbrev Whole : List (List ℕ) → List Proc → Result Meant Refused
Whole names procs = Ok (record { names = names; procs = procs })

within_limits : (names : List (List ℕ)) (procs : List Proc) → IsCommand names procs → as_written names procs ≡ Whole names procs
within_limits names procs c = by (nat_lt MAX_SYMBOLS (length names)) (le-ltb MAX_SYMBOLS (length names) c.few_symbols)
    (nat_lt MAX_PROCESSES (length procs)) (le-ltb MAX_PROCESSES (length procs) c.few_procs)
    (nat_lt MAX_PLACES (places_of_all procs)) (le-ltb MAX_PLACES (places_of_all procs) c.few_places)
  where
    tested : Bool → Bool → Bool → Result Meant Refused
    tested a b d = if a then Err (TooManySymbols (length names)) else if b then Err (TooManyProcs (length procs))
        else if d then Err (TooManyPlaces (places_of_all procs)) else Whole names procs

    by : (a : Bool) → a ≡ false → (b : Bool) → b ≡ false → (d : Bool) → d ≡ false → tested a b d ≡ Whole names procs
    by false e false f false g = refl
    by true e b f d g = absurd (cc)
    by false e true f d g = absurd (cc)
    by false e false f true g = absurd (cc)

-- what a file with this text is and means
pub record IsRead (names : List (List ℕ)) (procs : List Proc) : Type 0 where
  pub text : IsTextOfBytes (main_text names procs) names (main_sentence procs ∷ [])
  pub shallow : IsShallowText (main_text names procs)
  pub short : length (main_text names procs) ≤ MAX_FILE_BYTES
  pub means : expansion names (main_sentence procs ∷ []) ≡ Ok (record { names = names; procs = procs })

pub canonical_read : (names : List (List ℕ)) (procs : List Proc) → IsCommand names procs
    → IsTextOfBytes (main_text names procs) names (main_sentence procs ∷ [])
    × IsShallowText (main_text names procs) × (length (main_text names procs) ≤ MAX_FILE_BYTES) → IsRead names procs
canonical_read names procs c h = record {
  text = h.0;
  shallow = h.1;
  short = h.2;
  means = own_command names (main_sentence procs) procs
      (record { bytes = main_text names procs; few = h.2; text = h.0; shallow = h.1 }) refl ∙ within_limits names procs c;
}

pub of_source : (source text : List ℕ) (names : List (List ℕ)) (procs : List Proc) → source ≡ codes "main := " ++ text ++ codes "."
    → text ≡ procs_text names procs → IsRead names procs
    → IsTextOfBytes source names (main_sentence procs ∷ []) × IsShallowText source
of_source source text names procs e t r =
    let same : source ≡ main_text names procs = e ∙ ap (λ (u : List ℕ). codes "main := " ++ u ++ codes ".") t in (
      subst (λ (u : List ℕ). IsTextOfBytes u names (main_sentence procs ∷ [])) (sym same) r.text,
      subst IsShallowText (sym same) r.shallow,
    )

pub meant_of : (names : List (List ℕ)) (procs : List Proc) (read : Option File) (file : File) → read ≡ Some file
    → IfSome read (λ (f : File). (f.names ≡ names) × (f.sentences ≡ main_sentence procs ∷ [])) → IsRead names procs
    → expansion file.names file.sentences ≡ Ok (record { names = names; procs = procs })
meant_of names procs read file e h r =
    let told = subst (λ (o : Option File). IfSome o (λ (f : File). (f.names ≡ names) × (f.sentences ≡ main_sentence procs ∷ []))) e h in
    (λ i. expansion (told.0 i) (told.1 i)) ∙ r.means

pub as_meant : (file_names : List (List ℕ)) (sentences : List Sentence) (names : List (List ℕ)) (procs : List Proc)
    (read : Option Command) (command : Command) → read ≡ Some command
    → IfSome read (λ (c : Command). expansion file_names sentences ≡ Ok (record { names = c.names; procs = c.procs }))
    → expansion file_names sentences ≡ Ok (record { names = names; procs = procs })
    → procs_text command.names command.procs ≡ procs_text names procs
as_meant file_names sentences names procs read command e h m =
    let told = subst (λ (o : Option Command). IfSome o (λ (c : Command). expansion file_names sentences ≡ Ok (record { names = c.names; procs = c.procs }))) e h in
    let same : Whole command.names command.procs ≡ Whole names procs = sym told ∙ m in
    ap text_of same

pub same_bytes : (x y : List ℕ) → x ≡ y → true ≡ not (bytes_eq x y) → ⊥
same_bytes x y e h =
    let false_true : true ≡ false = h ∙ ap not ((bytes_eq-Decides x y).1 e) in
    absurd (cc)
