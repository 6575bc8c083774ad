use Rattle.std.proofs.Common.{◌≡◌, ◌-◌, ◌≤◌, ◌<◌, ◌^◌, ℕ}
use Rattle.net_drive.specs.Mirror.SumTrees.{two}
use Rattle.net_drive.proofs.index.leaves_for.Given as goal

abbrev pub invariant-loop-leaves : goal.invariant-loop-leaves
invariant-loop-leaves l = ((height : ℕ) × (l.leaves ≡ two height)) × (0 < l.leaves) × (l.leaves ≤ 2 ^ 41)

abbrev pub decreases-loop-leaves : goal.decreases-loop-leaves
decreases-loop-leaves l = l.size - l.leaves
