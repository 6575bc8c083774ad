use Rattle.std.proofs.Common.{◌-◌, ◌<◌, ℕ, Bool, List}
use Rattle.net_drive.specs.Bits.{trues}
use Rattle.net_drive.specs.Mirror.SumTrees.{IsTree, IsAbove}
use Rattle.net_drive.proofs.index.find.Given as goal

abbrev pub invariant-loop-node : goal.invariant-loop-node
invariant-loop-node l = (height : ℕ) (bits : List Bool) → IsTree height l.sums bits → l.before < trues bits
    → IsAbove height l.sums bits l.node l.left l.before

abbrev pub decreases-loop-node : goal.decreases-loop-node
decreases-loop-node l = l.leaves - l.node
