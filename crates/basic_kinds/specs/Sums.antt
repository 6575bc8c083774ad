-- How many components of each sort stand for a FORK, a C, a MERGE, a DW or a SEQ, in the two bases: wide,
-- where it stands for itself, and two, where it is split into components of two rows, columns, inputs or
-- outputs at most.
use Rattle.std.specs.Prelude.{ℕ, zero, suc, ◌+◌, ◌*◌, ◌-◌, nat_lt, if◌then◌else◌, List, [], ◌∷◌, length}
use Rattle.basic_kinds.specs.Sorts.{Sort, Iwires, Forks, Joins, Merges, Waits, Sequencers, same_sort}
use Rattle.basic_kinds.specs.ShapeParts.{part_at, part_names, part_rows, part_columns, local_part, half, first_rows, last_rows, outer, exchanged, one_column}

-- What is counted. A FORK, a C and a MERGE has its width, and where this is less than two there is only
-- the wire. A DW has its rows, its columns and its crossings, and a SEQ its number of requests.
pub data Counted : Type 0 where
  One : Sort → Counted
  Wide : Sort → ℕ → Counted
  Wait : ℕ → ℕ → List (ℕ × ℕ) → Counted
  Sequencer : ℕ → Counted

-- so many components of one sort
abbrev pub so_many : ℕ → Sort → Sort → ℕ
so_many n s t = if same_sort s t then n else 0

-- one where it has two and more, none where it would be of width 1
abbrev pub one_if_wide : ℕ → ℕ
one_if_wide zero = 0
one_if_wide (suc zero) = 0
one_if_wide (suc (suc n)) = 1

-- ---- the basis wide

-- a DW of one crossing is a C of its row and its column
abbrev pub wait_sort : List (ℕ × ℕ) → Sort
wait_sort [] = Waits
wait_sort (p ∷ []) = Joins
wait_sort (p ∷ q ∷ ps) = Waits

abbrev pub wide_sum : Counted → Sort → ℕ
wide_sum (One s) t = so_many 1 s t
wide_sum (Wide s n) t = so_many (one_if_wide n) s t
wide_sum (Wait rows cols cross) t = so_many 1 (wait_sort cross) t
wide_sum (Sequencer k) t = so_many 1 Sequencers t

-- ---- the basis two

-- a sum over parts, by their names
abbrev pub sum_over : (ℕ → ℕ) → List ℕ → ℕ
sum_over f [] = 0
sum_over f (i ∷ is) = f i + sum_over f is

-- A group of two rows and more has a FORK for each row, one MERGE of all, and a DW of its own.
abbrev pub group_sum : (ℕ → ℕ → List (ℕ × ℕ) → Sort → ℕ) → ℕ → ℕ → List (ℕ × ℕ) → Sort → ℕ
group_sum inner rows cols group t =
    if nat_lt rows 2 then 0 else so_many rows Forks t + (so_many (rows - 1) Merges t + inner rows cols group t)

-- the outer DW of a layer, and its two groups
abbrev pub layer_sum : (ℕ → ℕ → List (ℕ × ℕ) → Sort → ℕ) → ℕ → ℕ → List (ℕ × ℕ) → Sort → ℕ
layer_sum inner rows cols cross t =
    inner 2 cols (outer (half rows) cols cross) t
    + (group_sum inner (half rows) cols (first_rows (half rows) cross) t
    + group_sum inner (rows - half rows) cols (last_rows (half rows) cross) t)

-- A part of one crossing is a C, one of at most two rows and two columns a DW. A greater one is a layer,
-- by its rows where these are more than two, else by its columns.
abbrev pub part_sum : (ℕ → ℕ → List (ℕ × ℕ) → Sort → ℕ) → ℕ → ℕ → List (ℕ × ℕ) → Sort → ℕ
part_sum inner rows cols part t =
    if nat_lt (length part) 2 then so_many 1 Joins t
    else (if nat_lt 2 rows then layer_sum inner rows cols part t
    else (if nat_lt 2 cols then layer_sum inner cols rows (exchanged cols part) t else so_many 1 Waits t))

abbrev pub sum_of_part : (ℕ → ℕ → List (ℕ × ℕ) → Sort → ℕ) → ℕ → ℕ → List (ℕ × ℕ) → Sort → ℕ
sum_of_part inner rows cols part t =
    part_sum inner (length (part_rows rows part)) (length (part_columns cols part)) (local_part part) t

-- the sum over the parts of a DW, in so many layers
abbrev pub layers_sum : ℕ → ℕ → ℕ → List (ℕ × ℕ) → Sort → ℕ
layers_sum zero rows cols cross t = 0
layers_sum (suc n) rows cols cross t =
    sum_over (λ i. sum_of_part (layers_sum n) rows cols (part_at rows cross i) t) (part_names rows cross)

-- Rows and columns together fall from layer to layer.
abbrev pub wait_sum : ℕ → ℕ → List (ℕ × ℕ) → Sort → ℕ
wait_sum rows cols cross t = layers_sum (rows + cols) rows cols cross t

-- A group of two requests and more has a SEQ, two FORKs for each request, a MERGE of requests and one of
-- returns, an IWIRE, and a DW of its requests with one column.
abbrev pub requests_sum : (ℕ → Sort → ℕ) → ℕ → Sort → ℕ
requests_sum inner k t =
    if nat_lt k 2 then 0 else inner k t + (so_many (2 * k) Forks t + (so_many (2 * (k - 1)) Merges t
    + (so_many 1 Iwires t + wait_sum k 1 (one_column k) t)))

abbrev pub sequencers_sum : ℕ → ℕ → Sort → ℕ
sequencers_sum zero k t = 0
sequencers_sum (suc n) k t = so_many 1 Sequencers t
    + (if nat_lt 2 k then requests_sum (sequencers_sum n) (half k) t + requests_sum (sequencers_sum n) (k - half k) t else 0)

abbrev pub sequencer_sum : ℕ → Sort → ℕ
sequencer_sum k t = sequencers_sum k k t

abbrev pub two_way_sum : Counted → Sort → ℕ
two_way_sum (One s) t = so_many 1 s t
two_way_sum (Wide s n) t = so_many (n - 1) s t
two_way_sum (Wait rows cols cross) t = wait_sum rows cols cross t
two_way_sum (Sequencer k) t = sequencer_sum k t

-- ---- over a list

-- by one of the two sums
abbrev pub total_of : (Counted → Sort → ℕ) → List Counted → Sort → ℕ
total_of sum [] t = 0
total_of sum (x ∷ xs) t = sum x t + total_of sum xs t
