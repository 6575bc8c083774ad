use Rattle.std.proofs.Common.{◌≡◌, ◌++◌, map, drop}
use Rattle.plain_split.specs.Mirror.OneWaitTables.{links_by, wire_of, number_by}
use Rattle.plain_split.proofs.listed.ends.Given as goal

abbrev pub invariant-loop-wire : goal.invariant-loop-wire
invariant-loop-wire l = l.ends.items ++ map (number_by (links_by l.tables) (map wire_of l.lines)) (map wire_of (drop l.wire-index l.wires)) ≡ map (number_by (links_by l.tables) (map wire_of l.lines)) (map wire_of l.wires)
