use Rattle.std.proofs.Common.{take}
use Rattle.cmd_rename.specs.Table.{IsListed}
use Rattle.cmd_expand.proofs.faults.list_all.Given as goal

abbrev pub invariant-loop-symbol : goal.invariant-loop-symbol
invariant-loop-symbol l = IsListed l.table (take l.symbol-index l.symbols)
