use Rattle.std.specs.Prelude.{◌&&◌, not}
use Rattle.std.proofs.Common.{◌≡◌, map, filter}
use Rattle.std.specs.List.{range_with_len}
use Rattle.plain_split.specs.RoundsNet.{Shows}
use Rattle.plain_split.specs.RoundsChart.{is_out, is_single, givers}
use Rattle.plain_split.specs.Mirror.RoundsTables.{parts_by, part_of}
use Rattle.plain_split.proofs.round_nodes.shows.Given as goal

abbrev pub invariant-loop-symbol : goal.invariant-loop-symbol
invariant-loop-symbol l = l.nodes.items ≡ map (part_of (parts_by l.parts)) (map Shows (filter (λ a. is_out (parts_by l.parts) a && not (is_single (givers (parts_by l.parts) a))) (range_with_len 0 l.symbol)))
