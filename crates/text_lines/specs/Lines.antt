-- Words with a number, and lines that end with one.
use Rattle.std.specs.Prelude.{ℕ, List, ◌++◌, codes, decimal}

-- words and a number
unfoldable pub worded : List ℕ → ℕ → List ℕ
worded words n = words ++ decimal n

-- words and a number to the end of the line
unfoldable pub numbered_line : List ℕ → ℕ → List ℕ
numbered_line words n = words ++ decimal n ++ codes "\n"
