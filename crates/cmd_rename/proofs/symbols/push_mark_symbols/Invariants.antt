use Rattle.std.proofs.Common.{◌≡◌, ◌++◌, drop}
use Rattle.cmd_rename.specs.Symbols.{symbols_in}
use Rattle.cmd_rename.proofs.symbols.push_mark_symbols.Given as goal

abbrev pub invariant-loop-mark : goal.invariant-loop-mark
invariant-loop-mark l = l.symbols.items ++ symbols_in (drop l.mark-index l.marks) ≡ l.initial.symbols.items ++ symbols_in l.marks
