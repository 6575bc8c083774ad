-- A shape cut into its connected parts. A shape is the list of its crossings, each a row and a column.
use Rattle.std.specs.Prelude.{ℕ, List, length, map, get_or, nat_eq, filter}
use Rattle.std.specs.List.{range_with_len}
use Rattle.basic_kinds.specs.ShapeParts.{label, part_at, part_names, part_rows, part_columns, local_part}
use Rattle.shape_parts.specs.declared.cut.ShapePart.{ShapePart}

-- the places of the crossings of a part among those of the whole
abbrev pub part_places : ℕ → List (ℕ × ℕ) → ℕ → List ℕ
part_places rows cross i = filter (λ n. nat_eq (label rows cross (get_or cross n (0, 0)).0) i) (range_with_len 0 (length cross))

-- the part that is known by the line i
abbrev pub part_of : ℕ → ℕ → List (ℕ × ℕ) → ℕ → ShapePart
part_of rows cols cross i = record {
  name = i;
  rows = part_rows rows (part_at rows cross i);
  columns = part_columns cols (part_at rows cross i);
  places = part_places rows cross i;
  cross = local_part (part_at rows cross i);
}

-- the parts in the order of their least rows
abbrev pub parts_of : ℕ → ℕ → List (ℕ × ℕ) → List ShapePart
parts_of rows cols cross = map (part_of rows cols cross) (part_names rows cross)
