use Rattle.std.proofs.Common.{◌≡◌}
use Rattle.std.specs.List.{range_with_len}
use Rattle.place_graph.specs.GraphTraces.{numbers_of}
use Rattle.count_sum.specs.Mirror.Lists.{joined, kept_outs}
use Rattle.count_sum.proofs.graphs.given.Given as goal

abbrev pub invariant-loop-act : goal.invariant-loop-act
invariant-loop-act l = l.numbers.items ≡ joined (λ n. numbers_of (kept_outs l.kept l.acts n)) (range_with_len 0 l.act)
