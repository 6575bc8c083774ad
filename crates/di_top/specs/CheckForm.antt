-- The form `check F`: it is done for each admitted command, and prints how many processes, symbols and places it has. The
-- forms of `count` answer and admit the same.
use Rattle.std.specs.Prelude.{◌≡◌, ℕ, List, ◌++◌, length, codes, ⊤}
use Rattle.cmd_tree.specs.declared.tree.Proc.{Proc}
use Rattle.cmd_tree.specs.Limits.{places_of_all}
use Rattle.di_top.specs.declared.outcome.Outcome.{Outcome}
use Rattle.di_top.specs.declared.outcome.Outcome.TheVariants.{Done}
use Rattle.di_top.specs.declared.check_form.Counts.{Counts}
use Rattle.text_lines.specs.Lines.{numbered_line}
use Rattle.di_top.specs.Calls.{Reading}
use Rattle.di_top.specs.CommandFiles.{FileHolds, FileGives, FileAdmits}

abbrev pub CheckUses : List Proc → Outcome → Type 0
CheckUses procs outcome = outcome ≡ Done

abbrev pub CheckGives : Reading → List ℕ → Outcome → Type 0
CheckGives r file outcome = FileGives CheckUses r file outcome

-- each admitted command suits
abbrev pub CheckAdmits : Reading → List ℕ → Type 0
CheckAdmits r file = FileAdmits (λ procs. ⊤) r file

abbrev pub counts_text : Counts → List ℕ
counts_text c =
    codes "admitted\n" ++ numbered_line (codes "processes ") c.processes ++ numbered_line (codes "symbols ") c.symbols
    ++ numbered_line (codes "places ") c.places

abbrev pub counts_of : List (List ℕ) → List Proc → Counts
counts_of names procs = record { processes = length procs; symbols = length names; places = places_of_all procs }

-- the text is the four lines of the command in the file
pub record CheckPrints (r : Reading) (file text : List ℕ) : Type 0 where
  pub names : List (List ℕ)
  pub procs : List Proc
  pub held : FileHolds r file names procs
  pub is : text ≡ counts_text (counts_of names procs)
