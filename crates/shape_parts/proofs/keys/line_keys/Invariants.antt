use Rattle.std.proofs.Common.{◌≡◌, map}
use Rattle.std.specs.List.{range_with_len}
use Rattle.shape_parts.specs.Mirror.Cuts.{line_key}
use Rattle.shape_parts.proofs.keys.line_keys.Given as goal

abbrev pub invariant-loop-line : goal.invariant-loop-line
invariant-loop-line l = l.keys.items ≡ map (line_key l.labels l.first l.met l.numbers l.many) (range_with_len 0 l.line)
