use Rattle.std.proofs.Common.{◌≡◌, true, replicate}
use Rattle.count_sum.proofs.graphs.marks.Given as goal

abbrev pub invariant-loop : goal.invariant-loop
invariant-loop l = l.marks.items ≡ replicate l.counter true
