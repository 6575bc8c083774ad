use Rattle.std.proofs.Common.{◌≡◌, ◌++◌, List, map, drop}
use Rattle.weave_split.specs.declared.paths.Wire.{Wire}
use Rattle.weave_split.specs.Mirror.TieTables.{ties_by, wire_of, number_by}
use Rattle.weave_split.specs.Mirror.WirePlaces.{ArePlaces}
use Rattle.weave_split.proofs.numbered.WirePlaces.ends.Given as goal

abbrev pub invariant-loop-wire : goal.invariant-loop-wire
invariant-loop-wire l = (lines : List Wire) → ArePlaces l.self lines
    → l.ends.items ++ map (number_by (ties_by l.tables) (map wire_of lines)) (map wire_of (drop l.wire-index l.wires)) ≡ map (number_by (ties_by l.tables) (map wire_of lines)) (map wire_of l.wires)
