-- One layer of the split of a shape.
use Rattle.std.specs.Prelude.{ℕ, List}
use Rattle.basic_kinds.specs.ShapeParts.{half, first_rows, last_rows, outer}
use Rattle.shape_parts.specs.declared.layers.Layer.{Layer}

abbrev pub layer_of : ℕ → ℕ → List (ℕ × ℕ) → Layer
layer_of rows cols cross = record {
  half = half rows;
  outer = outer (half rows) cols cross;
  first = first_rows (half rows) cross;
  last = last_rows (half rows) cross;
}

-- a crossing with its row and its column exchanged
abbrev pub swapped : ℕ × ℕ → ℕ × ℕ
swapped p = (p.1, p.0)
