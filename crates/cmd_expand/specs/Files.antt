-- The files that were read: names and sentences of some bytes.
use Rattle.std.specs.Prelude.{ℕ, ◌≤◌, List, length}
use Rattle.cmd_tree.specs.declared.limits.TheConstants.{MAX_FILE_BYTES}
use Rattle.cmd_text.specs.declared.file.Sentence.{Sentence}
use Rattle.cmd_text.specs.Source.{IsTextOfBytes, IsShallowText}

-- some bytes, no more than a file may have, are a text of these names and sentences
pub record IsFile (names : List (List ℕ)) (sentences : List Sentence) : Type 0 where
  pub bytes : List ℕ
  pub few : length bytes ≤ MAX_FILE_BYTES
  pub text : IsTextOfBytes bytes names sentences
  pub shallow : IsShallowText bytes
