use Rattle.std.proofs.Common.{◌≡◌, ◌++◌, map, drop}
use Rattle.plain_split.specs.OneWait as web
use Rattle.plain_split.specs.Mirror.OneWaitTables.{wire_of}
use Rattle.plain_split.proofs.listed.gives.Given as goal

abbrev pub invariant-loop-symbol : goal.invariant-loop-symbol
invariant-loop-symbol l = map wire_of l.wires.items ++ map web.Give (drop l.symbol-index l.symbols) ≡ map web.Give l.symbols
