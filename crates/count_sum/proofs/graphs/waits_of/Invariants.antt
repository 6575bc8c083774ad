use Rattle.std.proofs.Common.{◌≡◌, length, map, take}
use Rattle.basic_kinds.specs.Sums.{Wait}
use Rattle.count_sum.specs.Mirror.Parts.{counted_of}
use Rattle.count_sum.proofs.graphs.waits_of.Given as goal

abbrev pub invariant-loop-part : goal.invariant-loop-part
invariant-loop-part l = map counted_of l.waits.items ≡ map (λ p. Wait (length p.rows) (length p.columns) p.cross) (take l.part-index l.found)
