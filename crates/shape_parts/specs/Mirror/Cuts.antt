-- The tables by which a shape is cut into its parts.
use Rattle.std.specs.Prelude.{◌≡◌, ℕ, ◌+◌, Bool, false, if◌then◌else◌, List, [], length, map, get_or, nat_eq, slice_index}
use Rattle.std.specs.List.{range_with_len, list_any}
use Rattle.basic_kinds.specs.Sorts.{how_many_below}
use Rattle.basic_kinds.specs.ShapeParts.{label, part_names, has_row, has_column}
use Rattle.shape_parts.specs.declared.keys.ShapeKeys.{ShapeKeys}
use Rattle.shape_parts.specs.declared.cut.ShapePart.{ShapePart}
use Rattle.shape_parts.specs.declared.cut.Cut.{Cut}
use Rattle.shape_parts.specs.Keys.{with_key, rank}

-- a part is known by the line i
abbrev pub is_name : ℕ → List (ℕ × ℕ) → ℕ → Bool
is_name rows cross i = list_any (λ p. nat_eq (label rows cross p.0) i) cross

-- the number of the part that is known by the line i
abbrev pub number_of : ℕ → List (ℕ × ℕ) → ℕ → ℕ
number_of rows cross i = how_many_below i (is_name rows cross)

-- how many parts there are
abbrev pub many_parts : ℕ → List (ℕ × ℕ) → ℕ
many_parts rows cross = how_many_below rows (is_name rows cross)

-- the number of the part of a row, of a column and of a crossing; a line without a crossing has the number behind all
abbrev pub row_key : ℕ → List (ℕ × ℕ) → ℕ → ℕ
row_key rows cross r = if has_row cross r then number_of rows cross (label rows cross r) else many_parts rows cross

abbrev pub column_key : ℕ → List (ℕ × ℕ) → ℕ → ℕ
column_key rows cross c = if has_column cross c then number_of rows cross (label rows cross (rows + c)) else many_parts rows cross

abbrev pub crossing_key : ℕ → List (ℕ × ℕ) → ℕ → ℕ
crossing_key rows cross n = row_key rows cross (get_or cross n (0, 0)).0

abbrev pub row_keys : ℕ → List (ℕ × ℕ) → List ℕ
row_keys rows cross = map (row_key rows cross) (range_with_len 0 rows)

abbrev pub column_keys : ℕ → ℕ → List (ℕ × ℕ) → List ℕ
column_keys rows cols cross = map (column_key rows cross) (range_with_len 0 cols)

abbrev pub crossing_keys : ℕ → List (ℕ × ℕ) → List ℕ
crossing_keys rows cross = map (crossing_key rows cross) (range_with_len 0 (length cross))

pub record AreKeys (rows cols : ℕ) (cross : List (ℕ × ℕ)) (t : ShapeKeys) : Type 0 where
  pub of_rows : t.rows.items ≡ row_keys rows cross
  pub of_columns : t.columns.items ≡ column_keys rows cols cross
  pub of_crossings : t.crossings.items ≡ crossing_keys rows cross
  pub of_names : t.names.items ≡ part_names rows cross

-- the key of a line, by the labels of lines of which the first before it is the line k
abbrev pub line_key : List ℕ → ℕ → List Bool → List ℕ → ℕ → ℕ → ℕ
line_key labels k met numbers many i = if get_or met i false then slice_index numbers (slice_index labels (k + i)) else many

-- the buckets of each part: its rows, its columns and its crossings
pub record IsCut (rows cols : ℕ) (cross : List (ℕ × ℕ)) (t : Cut) : Type 0 where
  pub of_rows : t.rows.numbers.items ≡ map (with_key (row_keys rows cross)) (range_with_len 0 (many_parts rows cross + 1))
  pub row_ranks : t.rows.ranks.items ≡ map (rank (row_keys rows cross)) (range_with_len 0 (length (row_keys rows cross)))
  pub of_columns : t.columns.numbers.items ≡ map (with_key (column_keys rows cols cross)) (range_with_len 0 (many_parts rows cross + 1))
  pub column_ranks : t.columns.ranks.items ≡ map (rank (column_keys rows cols cross)) (range_with_len 0 (length (column_keys rows cols cross)))
  pub of_crossings : t.crossings.numbers.items ≡ map (with_key (crossing_keys rows cross)) (range_with_len 0 (many_parts rows cross + 1))
  pub of_names : t.names.items ≡ part_names rows cross

-- a crossing by the rows and the columns of its part
abbrev pub local_by : Cut → List (ℕ × ℕ) → ℕ → ℕ × ℕ
local_by t cross n = (slice_index t.rows.ranks.items (get_or cross n (0, 0)).0, slice_index t.columns.ranks.items (get_or cross n (0, 0)).1)

-- the part with the number k
abbrev pub part_by : Cut → List (ℕ × ℕ) → ℕ → ShapePart
part_by t cross k = record {
  name = slice_index t.names.items k;
  rows = get_or t.rows.numbers.items k [];
  columns = get_or t.columns.numbers.items k [];
  places = get_or t.crossings.numbers.items k [];
  cross = map (local_by t cross) (get_or t.crossings.numbers.items k []);
}
