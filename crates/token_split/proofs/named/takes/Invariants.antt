use Rattle.std.proofs.Common.{◌≡◌, ◌++◌, map, drop}
use Rattle.token_split.specs.TokenChart as web
use Rattle.token_split.specs.Mirror.TokenTables.{wire_of}
use Rattle.token_split.proofs.named.takes.Given as goal

abbrev pub invariant-loop-symbol : goal.invariant-loop-symbol
invariant-loop-symbol l = map wire_of l.wires.items ++ map web.Take (drop l.symbol-index l.symbols) ≡ map web.Take l.symbols
