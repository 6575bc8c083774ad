use Rattle.std.proofs.Common.{◌≡◌, ◌++◌, map, drop}
use Rattle.weave_split.specs.WeaveChart as web
use Rattle.weave_split.specs.Mirror.TieTables.{ties_by, wire_of}
use Rattle.weave_split.proofs.named.inner_ports.Given as goal

abbrev pub invariant-loop-symbol : goal.invariant-loop-symbol
invariant-loop-symbol l = map wire_of l.wires.items ++ map (web.inner_port (ties_by l.tables) l.process) (drop l.symbol-index l.symbols) ≡ map (web.inner_port (ties_by l.tables) l.process) l.symbols
