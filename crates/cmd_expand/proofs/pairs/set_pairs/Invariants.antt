use Rattle.std.proofs.Common.{drop, ◌≤◌, length}
use Rattle.cmd_expand.specs.Mirror.Tables.{Renames}
use Rattle.cmd_expand.proofs.pairs.set_pairs.Given as goal

abbrev pub invariant-loop-left : goal.invariant-loop-left
invariant-loop-left l = (l.left ≤ length l.pairs) × Renames l.table (drop l.left l.pairs)

abbrev pub decreases-loop-left : goal.decreases-loop-left
decreases-loop-left l = l.left
