use Rattle.std.proofs.Common.{◌≡◌, map}
use Rattle.std.specs.List.{range_with_len}
use Rattle.plain_split.specs.Mirror.RoundsTables.{toggle_of}
use Rattle.plain_split.proofs.round_nodes.toggle_level.Given as goal

abbrev pub invariant-loop-place : goal.invariant-loop-place
invariant-loop-place l = l.nodes.items ≡ map (toggle_of l.upper l.lower) (range_with_len 0 l.place)
