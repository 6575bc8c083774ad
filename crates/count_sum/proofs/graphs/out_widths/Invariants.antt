use Rattle.std.proofs.Common.{◌≡◌, length, map, take}
use Rattle.count_sum.proofs.graphs.out_widths.Given as goal

abbrev pub invariant-loop-act : goal.invariant-loop-act
invariant-loop-act l = l.widths.items ≡ map (λ y. length y.outs) (take l.act-index l.acts)
