use Rattle.std.proofs.Common.{◌≡◌, length, map, take}
use Rattle.count_sum.proofs.graphs.burst_widths.Given as goal

abbrev pub invariant-loop-burst : goal.invariant-loop-burst
invariant-loop-burst l = l.widths.items ≡ map (λ b. length b) (take l.burst-index l.bursts)
