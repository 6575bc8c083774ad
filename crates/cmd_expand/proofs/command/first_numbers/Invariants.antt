use Rattle.std.proofs.Common.{◌≡◌}
use Rattle.cmd_rename.specs.Symbols.{counted}
use Rattle.cmd_expand.proofs.command.first_numbers.Given as goal

abbrev pub invariant-loop-index : goal.invariant-loop-index
invariant-loop-index l = l.numbers.items ≡ counted l.index
