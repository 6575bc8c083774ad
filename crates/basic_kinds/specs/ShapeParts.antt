-- The connected parts of a shape, and the shapes of one layer of the split of a DW. A shape is the list of
-- its crossings, each a row and a column; lines are its rows and, behind them, its columns.
use Rattle.std.specs.Prelude.{ℕ, zero, suc, ◌+◌, ◌-◌, Bool, not, nat_eq, nat_lt, ◌||◌, if◌then◌else◌, List, [], ◌∷◌, ◌++◌, map, filter}
use Rattle.std.specs.List.{list_any, range_with_len}
use Rattle.basic_kinds.specs.Sorts.{how_many_below}

-- ---- parts

abbrev pub lesser : ℕ → ℕ → ℕ
lesser a b = if nat_lt b a then b else a

-- the lines that f says are joined, and those of a and of b made one; each is known by its least line
abbrev pub merged : (ℕ → ℕ) → ℕ → ℕ → ℕ → ℕ
merged f a b v = if nat_eq (f v) (f a) || nat_eq (f v) (f b) then lesser (f a) (f b) else f v

-- the least line that the line v is joined to by the crossings
abbrev pub label : ℕ → List (ℕ × ℕ) → ℕ → ℕ
label rows [] v = v
label rows (p ∷ ps) v = merged (label rows ps) p.0 (rows + p.1) v

-- the part that is known by the line i
abbrev pub part_at : ℕ → List (ℕ × ℕ) → ℕ → List (ℕ × ℕ)
part_at rows cross i = filter (λ p. nat_eq (label rows cross p.0) i) cross

-- the parts by their least rows
abbrev pub part_names : ℕ → List (ℕ × ℕ) → List ℕ
part_names rows cross = filter (λ i. list_any (λ p. nat_eq (label rows cross p.0) i) cross) (range_with_len 0 rows)

abbrev pub has_row : List (ℕ × ℕ) → ℕ → Bool
has_row cross i = list_any (λ p. nat_eq p.0 i) cross

abbrev pub has_column : List (ℕ × ℕ) → ℕ → Bool
has_column cross j = list_any (λ p. nat_eq p.1 j) cross

-- the rows and the columns of a part, in order
abbrev pub part_rows : ℕ → List (ℕ × ℕ) → List ℕ
part_rows rows part = filter (has_row part) (range_with_len 0 rows)

abbrev pub part_columns : ℕ → List (ℕ × ℕ) → List ℕ
part_columns cols part = filter (has_column part) (range_with_len 0 cols)

-- a part with its own rows and columns, from 0
abbrev pub local_crossing : List (ℕ × ℕ) → ℕ × ℕ → ℕ × ℕ
local_crossing part p = (how_many_below p.0 (has_row part), how_many_below p.1 (has_column part))

abbrev pub local_part : List (ℕ × ℕ) → List (ℕ × ℕ)
local_part part = map (local_crossing part) part

-- ---- one layer

-- n/2, rounded up
abbrev pub half : ℕ → ℕ
half zero = zero
half (suc zero) = suc zero
half (suc (suc n)) = suc (half n)

-- the crossings of the first h rows, and of the others with their rows from 0
abbrev pub first_rows : ℕ → List (ℕ × ℕ) → List (ℕ × ℕ)
first_rows h cross = filter (λ p. nat_lt p.0 h) cross

abbrev pub last_rows : ℕ → List (ℕ × ℕ) → List (ℕ × ℕ)
last_rows h cross = map (λ p. (p.0 - h, p.1)) (filter (λ p. not (nat_lt p.0 h)) cross)

-- the columns that a group of rows meets, as crossings of row k
abbrev pub met : ℕ → ℕ → List (ℕ × ℕ) → List (ℕ × ℕ)
met k cols group = map (λ j. (k, j)) (filter (has_column group) (range_with_len 0 cols))

-- a row for each of the two groups, and a crossing where some row of the group meets the column
abbrev pub outer : ℕ → ℕ → List (ℕ × ℕ) → List (ℕ × ℕ)
outer h cols cross = met 0 cols (first_rows h cross) ++ met 1 cols (last_rows h cross)

-- the crossings of the columns from j on, k of them, as rows
abbrev pub exchanged_from : ℕ → ℕ → List (ℕ × ℕ) → List (ℕ × ℕ)
exchanged_from j zero cross = []
exchanged_from j (suc k) cross = map (λ p. (p.1, p.0)) (filter (λ p. nat_eq p.1 j) cross) ++ exchanged_from (suc j) k cross

-- rows and columns exchanged
abbrev pub exchanged : ℕ → List (ℕ × ℕ) → List (ℕ × ℕ)
exchanged cols cross = exchanged_from 0 cols cross

-- each of so many rows with one column
abbrev pub one_column : ℕ → List (ℕ × ℕ)
one_column rows = map (λ i. (i, 0)) (range_with_len 0 rows)
