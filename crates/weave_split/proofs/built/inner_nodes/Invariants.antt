use Rattle.std.proofs.Common.{◌≡◌, ◌++◌, List, map, drop}
use Rattle.weave_split.specs.declared.paths.Wire.{Wire}
use Rattle.weave_split.specs.Mirror.TieTables.{ties_by, wire_of, part_by}
use Rattle.weave_split.specs.Mirror.WirePlaces.{ArePlaces}
use Rattle.weave_split.proofs.built.inner_nodes.Given as goal

abbrev pub invariant-loop-part : goal.invariant-loop-part
invariant-loop-part l = (lines : List Wire) → ArePlaces l.places lines
    → l.nodes.items ++ map (part_by l.specs (ties_by l.tables) (map wire_of lines)) (drop l.part-index l.parts) ≡ map (part_by l.specs (ties_by l.tables) (map wire_of lines)) l.parts
