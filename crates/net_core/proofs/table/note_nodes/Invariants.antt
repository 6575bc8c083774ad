use Rattle.std.proofs.Common.{true, false, take}
use Rattle.net_core.specs.Mirror.EndTables.{Added, all_ports}
use Rattle.net_core.proofs.table.note_nodes.Given as goal

abbrev pub invariant-loop-place : goal.invariant-loop-place
invariant-loop-place l = Added l.initial.ends l.ends (all_ports true l.first (take l.place l.nodes)) (all_ports false l.first (take l.place l.nodes))
