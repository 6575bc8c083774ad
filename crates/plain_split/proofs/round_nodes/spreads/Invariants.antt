use Rattle.std.proofs.Common.{◌≡◌, map, filter}
use Rattle.std.specs.List.{range_with_len}
use Rattle.plain_split.specs.RoundsNet.{Spread}
use Rattle.plain_split.specs.RoundsChart.{is_kept}
use Rattle.plain_split.specs.Mirror.RoundsTables.{parts_by, part_of}
use Rattle.plain_split.proofs.round_nodes.spreads.Given as goal

abbrev pub invariant-loop-act : goal.invariant-loop-act
invariant-loop-act l = l.nodes.items ≡ map (part_of (parts_by l.parts)) (filter (is_kept (parts_by l.parts)) (map Spread (range_with_len 0 l.act)))
