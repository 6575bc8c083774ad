use Rattle.std.proofs.Common.{◌≡◌, map, take}
use Rattle.shape_parts.specs.Mirror.Cuts.{local_by}
use Rattle.shape_parts.proofs.cut.Cut.local.Given as goal

abbrev pub invariant-loop-place : goal.invariant-loop-place
invariant-loop-place l = l.crossings ≡ map (local_by l.self l.cross) (take l.place-index l.places)
