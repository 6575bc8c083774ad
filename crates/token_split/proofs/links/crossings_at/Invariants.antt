use Rattle.std.proofs.Common.{◌≡◌, map, take}
use Rattle.token_split.specs.Mirror.TokenTables.{crossing_at}
use Rattle.token_split.proofs.links.crossings_at.Given as goal

abbrev pub invariant-loop-place : goal.invariant-loop-place
invariant-loop-place l = l.found.items ≡ map (crossing_at l.crosses) (take l.place-index l.places)
