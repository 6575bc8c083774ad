-- What a command file is to the forms of words that take the command of `main`.
use Rattle.std.specs.Prelude.{◌≡◌, ℕ, ◌≤◌, List, length, Result, Ok}
use Rattle.cmd_tree.specs.declared.tree.Proc.{Proc}
use Rattle.cmd_tree.specs.declared.limits.TheConstants.{MAX_FILE_BYTES}
use Rattle.cmd_text.specs.declared.file.Sentence.{Sentence}
use Rattle.cmd_text.specs.Source.{IsTextOfBytes, IsShallowText}
use Rattle.cmd_expand.specs.Expansion.{Meant, expansion}
use Rattle.cmd_expand.specs.Pairs.{Refused}

-- the bytes, no more than a file may have, are a text of these names and sentences
pub record IsFileOf (bytes : List ℕ) (names : List (List ℕ)) (sentences : List Sentence) : Type 0 where
  pub few : length bytes ≤ MAX_FILE_BYTES
  pub text : IsTextOfBytes bytes names sentences
  pub shallow : IsShallowText bytes

-- the bytes are a text, and this is what its file means: the command of `main`, or what is wrong first
pub record Source (bytes : List ℕ) (is : Result Meant Refused) : Type 0 where
  pub names : List (List ℕ)
  pub sentences : List Sentence
  pub read : IsFileOf bytes names sentences
  pub same : expansion names sentences ≡ is

-- the file means this command
abbrev pub main : List (List ℕ) → List Proc → Result Meant Refused
main names procs = Ok (record { names = names; procs = procs })
