use Rattle.std.proofs.Common.{◌≡◌, ◌+◌, length, map, take}
use Rattle.place_graph.specs.Sums.{exits}
use Rattle.count_sum.proofs.graphs.move_widths.Given as goal

abbrev pub invariant-loop-act : goal.invariant-loop-act
invariant-loop-act l = l.widths.items ≡ map (λ y. length y.outs + exits y.exit) (take l.act-index l.acts)
