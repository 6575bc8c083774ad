-- The network of the parts of a DW that is not connected, or has one crossing.
use Rattle.std.specs.Prelude.{ℕ, ◌+◌, Bool, not, ◌||◌, nat_eq, ◌∷◌, ◌++◌, map, length}
use Rattle.std.specs.List.{range_with_len}
use Rattle.basic_kinds.specs.declared.shape.Shape.{Shape}
use Rattle.basic_kinds.specs.declared.kind.Kind.TheVariants.{Dw}
use Rattle.net_core.specs.declared.spec.NodeSpec.TheVariants.{Kind as Basic}
use Rattle.net_core.specs.Wiring.{Node, Circuit}
use Rattle.shape_parts.specs.declared.cut.ShapePart.{ShapePart}
use Rattle.shape_parts.specs.Cut.{parts_of}
use Rattle.two_way.specs.TwoWay.{is_connected}
use Rattle.wait_parts.specs.PartKind.{part_kind}

-- the parts of the shape, and no layer by rows or columns, stand in its place
abbrev pub is_cut : Shape → Bool
is_cut s = not (is_connected s) || nat_eq (length s.cross) 1

-- how many ports a DW of the shape has
abbrev pub ports_of : Shape → ℕ
ports_of s = s.rows + s.cols + length s.cross

-- The component of a part: of the wires of the whole it has those of its rows, those of its columns, and those of its
-- crossings.
abbrev pub part_node : Shape → ShapePart → Node
part_node s p = record {
  spec = Basic (part_kind (length p.rows) (length p.columns) p.cross);
  ends = (p.rows ++ map (λ j. s.rows + j) p.columns) ++ map (λ x. s.rows + s.cols + x) p.places;
}

-- The environment is at the wires from 0 on, in the order of its ports, and each part at its own. The parts stand in
-- the order of their least rows.
abbrev pub parts_circuit : Shape → Circuit
parts_circuit s = record {
  nodes = record { spec = Basic (Dw s); ends = range_with_len 0 (ports_of s) }
      ∷ map (part_node s) (parts_of s.rows s.cols s.cross);
  wires = ports_of s;
}
