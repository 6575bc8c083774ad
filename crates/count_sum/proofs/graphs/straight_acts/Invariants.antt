use Rattle.std.proofs.Common.{◌≡◌, map}
use Rattle.std.specs.List.{range_with_len}
use Rattle.count_sum.specs.Mirror.Lists.{straight_by}
use Rattle.count_sum.proofs.graphs.straight_acts.Given as goal

abbrev pub invariant-loop-act : goal.invariant-loop-act
invariant-loop-act l = l.straight.items ≡ map (straight_by l.entries l.singles.items l.graph) (range_with_len 0 l.act)
