use Rattle.std.proofs.Common.{◌≡◌, ◌++◌, map, drop}
use Rattle.weave_split.specs.WeaveChart as web
use Rattle.weave_split.specs.Mirror.TieTables.{ties_by, wire_of}
use Rattle.weave_split.proofs.named.copies_of.Given as goal

abbrev pub invariant-loop-process : goal.invariant-loop-process
invariant-loop-process l = map wire_of l.wires.items ++ map (web.copy_for (ties_by l.tables) l.symbol) (drop l.process-index l.processes) ≡ map (web.copy_for (ties_by l.tables) l.symbol) l.processes
