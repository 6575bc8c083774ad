-- What the laws of the sum of a DW speak of.
use Rattle.std.specs.Prelude.{◌≡◌, ℕ, nat_lt, if◌then◌else◌, IsTrue, List, length}
use Rattle.std.specs.List.{list_all}
use Rattle.basic_kinds.specs.Shapes.{is_within}
use Rattle.basic_kinds.specs.ShapeParts.{part_names, part_rows, part_columns, local_part}
use Rattle.basic_kinds.specs.Sorts.{Sort, Joins}
use Rattle.basic_kinds.specs.Sums.{so_many, wait_sum}

-- each crossing is of one of so many rows and one of so many columns
abbrev pub IsWithin : ℕ → ℕ → List (ℕ × ℕ) → Type 0
IsWithin rows cols cross = IsTrue (list_all (is_within rows cols) cross)

-- the crossings are one part
abbrev pub IsConnected : ℕ → List (ℕ × ℕ) → Type 0
IsConnected rows cross = length (part_names rows cross) ≡ 1

-- the sum of the shape that has only the lines that the crossings meet, numbered anew in their order
abbrev pub own_sum : ℕ → ℕ → List (ℕ × ℕ) → Sort → ℕ
own_sum rows cols cross s = wait_sum (length (part_rows rows cross)) (length (part_columns cols cross)) (local_part cross) s

-- a part of one crossing is a C, another part a DW of its own shape
abbrev pub part_alone : ℕ → ℕ → List (ℕ × ℕ) → Sort → ℕ
part_alone rows cols part s = if nat_lt (length part) 2 then so_many 1 Joins s else own_sum rows cols part s
