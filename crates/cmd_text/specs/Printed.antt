-- A command alone in a file, in its canonical text.
use Rattle.std.specs.Prelude.{ℕ, List, ◌++◌, map, codes, None}
use Rattle.cmd_tree.specs.declared.tree.Proc.{Proc}
use Rattle.cmd_text.specs.declared.file.Sentence.{Sentence}
use Rattle.cmd_text.specs.declared.file.Factor.TheVariants.{Own}
use Rattle.cmd_text.specs.Canonical.{procs_text}

-- `main := `, the command and a dot
abbrev pub main_text : List (List ℕ) → List Proc → List ℕ
main_text names procs = codes "main := " ++ procs_text names procs ++ codes "."

-- the one sentence of such a file
abbrev pub main_sentence : List Proc → Sentence
main_sentence procs = record { name = None; at = 0; factors = map Own procs }
