-- Texts that are cut at each byte of one value, and put together again.
use Rattle.std.specs.Prelude.{◌≢◌, ℕ, ◌+◌, ◌==◌, List, [], length, Option, None, Some}
use Rattle.std.specs.List.{slice_split, join_with_byte, AllByRecursion}

-- the bytes, cut at each c
abbrev pub pieces : ℕ → List ℕ → List (List ℕ)
pieces c bytes = slice_split (λ b. b == c) bytes

-- of what is left behind a cut, if there is one
abbrev pub pieces_left : ℕ → Option (List ℕ) → List (List ℕ)
pieces_left c None = []
pieces_left c (Some bytes) = pieces c bytes

-- the bytes that are left, and the cut before them
abbrev pub left_size : Option (List ℕ) → ℕ
left_size None = 0
left_size (Some bytes) = length bytes + 1

-- no byte of the piece is c
abbrev pub IsPiece : ℕ → List ℕ → Type 0
IsPiece c piece = AllByRecursion (λ b. b ≢ c) piece

-- words, with one blank between each two
abbrev pub line_of : List (List ℕ) → List ℕ
line_of words = join_with_byte 32 words
