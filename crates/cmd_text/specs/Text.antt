-- The texts of the grammar, and the lists of tokens that begin one.
use Rattle.std.specs.Prelude.{◌≡◌, ℕ, IsTrue, List, [], ◌++◌, map, ⊤}
use Rattle.std.specs.List.{AllByRecursion}
use Rattle.cmd_tree.specs.Limits.{is_name}
use Rattle.cmd_text.specs.declared.file.Sentence.{Sentence}
use Rattle.cmd_text.specs.Token.{Token, End, Word}
use Rattle.cmd_text.specs.File.{Placed, IsTextOf}
use Rattle.cmd_text.specs.Names.{name_in, names_after}

abbrev pub tokens : List Placed → List Token
tokens xs = map (λ x. x.tok) xs

-- These tokens are a text of these sentences, over these names: the names are the different words before
-- `?` and `!`, in order, and the tokens are those of the sentences.
pub record IsText (xs : List Placed) (names : List (List ℕ)) (ss : List Sentence) : Type 0 where
  pub named : names ≡ names_after [] End (tokens xs)
  pub spelled : IsTextOf (name_in names) xs ss

-- a token that may stand in a text: a word is a name
abbrev pub IsWord : Token → Type 0
IsWord (Word n) = IsTrue (is_name n)
IsWord t = ⊤

abbrev pub IsToken : Placed → Type 0
IsToken x = IsWord x.tok

-- some continuation of the tokens is a text
pub record Begins (xs : List Placed) : Type 0 where
  pub more : List Placed
  pub proper : AllByRecursion IsToken more
  pub names : List (List ℕ)
  pub sentences : List Sentence
  pub text : IsText (xs ++ more) names sentences
