use Rattle.std.proofs.Common.{◌≤◌, length}
use Rattle.cmd_alone.proofs.Ranks.{HasRanks}
use Rattle.cmd_alone.proofs.single.ranks_of.Given as goal

abbrev pub invariant-loop-left : goal.invariant-loop-left
invariant-loop-left l = record {
  few : l.left ≤ length l.symbols;
  ranks : HasRanks l.table l.symbols l.left;
}

abbrev pub decreases-loop-left : goal.decreases-loop-left
decreases-loop-left l = l.left
