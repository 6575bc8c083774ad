use Rattle.std.proofs.Common.{take}
use Rattle.cmd_expand.specs.Mirror.Tables.{Tallies}
use Rattle.cmd_expand.proofs.faults.tally_all.Given as goal

abbrev pub invariant-loop-number : goal.invariant-loop-number
invariant-loop-number l = Tallies l.table (take l.number-index l.numbers)
