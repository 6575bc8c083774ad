use Rattle.std.proofs.Common.{◌≡◌, ◌++◌, map, drop}
use Rattle.plain_split.specs.Mirror.OneWaitTables.{links_by, wire_of, part_by}
use Rattle.plain_split.proofs.one_wait_net.inner_nodes.Given as goal

abbrev pub invariant-loop-part : goal.invariant-loop-part
invariant-loop-part l = l.nodes.items ++ map (part_by (links_by l.tables) (map wire_of l.lines)) (drop l.part-index l.parts) ≡ map (part_by (links_by l.tables) (map wire_of l.lines)) l.parts
