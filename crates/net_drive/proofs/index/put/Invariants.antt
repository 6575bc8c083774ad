use Rattle.std.proofs.Common.{◌≡◌, ℕ, set}
use Rattle.net_drive.specs.Mirror.SumTrees.{IsTreeBelow}
use Rattle.net_drive.proofs.index.put.Given as goal

abbrev pub invariant-loop-node : goal.invariant-loop-node
invariant-loop-node l = (l.bits ≡ set l.fn.bits l.index l.on)
    × ((height : ℕ) × IsTreeBelow height l.sums l.bits l.node l.on)

abbrev pub decreases-loop-node : goal.decreases-loop-node
decreases-loop-node l = l.node
