use Rattle.std.proofs.Common.{◌≡◌, take}
use Rattle.cmd_rename.specs.Symbols.{names_in}
use Rattle.cmd_rename.proofs.names.symbol_names.Given as goal

abbrev pub invariant-loop-symbol : goal.invariant-loop-symbol
invariant-loop-symbol l = l.set ≡ names_in l.names (take l.symbol-index l.symbols)
