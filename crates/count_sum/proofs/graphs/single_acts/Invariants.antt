use Rattle.std.proofs.Common.{◌≡◌, ◌++◌, drop}
use Rattle.count_sum.specs.Mirror.Lists.{single_acts}
use Rattle.count_sum.proofs.graphs.single_acts.Given as goal

abbrev pub invariant-loop-cross : goal.invariant-loop-cross
invariant-loop-cross l = l.acts.items ++ single_acts l.bursts (drop l.cross-index l.crosses) ≡ single_acts l.bursts l.crosses
