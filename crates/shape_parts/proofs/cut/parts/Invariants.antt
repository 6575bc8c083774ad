use Rattle.std.proofs.Common.{◌≡◌, map}
use Rattle.std.specs.List.{range_with_len}
use Rattle.shape_parts.specs.Mirror.Cuts.{part_by}
use Rattle.shape_parts.proofs.cut.parts.Given as goal

abbrev pub invariant-loop-number : goal.invariant-loop-number
invariant-loop-number l = l.parts.items ≡ map (part_by l.cut l.cross) (range_with_len 0 l.number)
