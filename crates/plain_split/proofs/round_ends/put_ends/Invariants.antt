use Rattle.std.proofs.Common.{◌≡◌, ◌++◌, map, drop}
use Rattle.plain_split.specs.RoundsNet.{Put}
use Rattle.plain_split.specs.Mirror.RoundsTables.{parts_by, end_at}
use Rattle.plain_split.proofs.round_ends.put_ends.Given as goal

abbrev pub invariant-loop-symbol : goal.invariant-loop-symbol
invariant-loop-symbol l = l.ends.items ++ map (λ a. end_at (parts_by l.parts) (Put l.act a)) (drop l.symbol-index l.symbol-items) ≡ map (λ a. end_at (parts_by l.parts) (Put l.act a)) l.symbol-items
