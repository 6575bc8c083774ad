use Rattle.std.proofs.Common.{◌≡◌, map}
use Rattle.std.specs.List.{range_with_len}
use Rattle.plain_split.specs.OneWait as web
use Rattle.plain_split.specs.Mirror.OneWaitTables.{links_by, wire_of}
use Rattle.plain_split.proofs.named.outer_ports.Given as goal

abbrev pub invariant-loop-symbol : goal.invariant-loop-symbol
invariant-loop-symbol l = map wire_of l.wires.items ≡ map (web.port (links_by l.tables)) (range_with_len 0 l.symbol)
