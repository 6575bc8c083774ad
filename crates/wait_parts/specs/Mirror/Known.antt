-- What the code knows of the parts that it is given.
use Rattle.std.specs.Prelude.{◌≡◌, ◌<◌, ◌≤◌, true, length}
use Rattle.std.specs.List.{AllByRecursion}
use Rattle.basic_kinds.specs.declared.shape.Shape.{Shape}
use Rattle.shape_parts.specs.declared.cut.ShapePart.{ShapePart}
use Rattle.wait_parts.specs.PartKind.{is_shape}

-- the part is one of the shape: its lines and crossings are of the shape, and are a shape of their own
pub record IsKnown (s : Shape) (p : ShapePart) : Type 0 where
  pub few_rows : length p.rows ≤ s.rows
  pub few_columns : length p.columns ≤ s.cols
  pub rows : AllByRecursion (λ r. r < s.rows) p.rows
  pub columns : AllByRecursion (λ j. j < s.cols) p.columns
  pub places : AllByRecursion (λ x. x < length s.cross) p.places
  pub shape : is_shape (length p.rows) (length p.columns) p.cross ≡ true
