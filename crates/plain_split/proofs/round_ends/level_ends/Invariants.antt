use Rattle.std.proofs.Common.{◌≡◌, map}
use Rattle.std.specs.List.{range_with_len}
use Rattle.plain_split.specs.RoundsNet.{leaf, To}
use Rattle.plain_split.specs.Mirror.RoundsTables.{parts_by, end_at}
use Rattle.plain_split.proofs.round_ends.level_ends.Given as goal

abbrev pub invariant-loop-place : goal.invariant-loop-place
invariant-loop-place l = l.ends.items ≡ map (λ i. end_at (parts_by l.parts) (To (leaf l.depth i))) (range_with_len 0 l.place)
