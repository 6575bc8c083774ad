use Rattle.std.proofs.Common.{◌≡◌, List, map, take}
use Rattle.cmd_expand.specs.declared.pairs.Pair.{Pair}
use Rattle.cmd_expand.specs.Pairs.{renamed}
use Rattle.cmd_expand.specs.Mirror.Tables.{Renames}
use Rattle.cmd_expand.proofs.pairs.rename_symbols.Given as goal

abbrev pub invariant-loop-symbol : goal.invariant-loop-symbol
invariant-loop-symbol l = (pairs : List Pair) → Renames l.table pairs → l.fresh.items ≡ map (renamed pairs) (take l.symbol-index l.symbols)
