use Rattle.std.proofs.Common.{◌≡◌, ◌++◌, map, take, get_or}
use Rattle.shape_parts.specs.Layers.{swapped}
use Rattle.shape_parts.proofs.layers.push_exchanged.Given as goal

abbrev pub invariant-loop-place : goal.invariant-loop-place
invariant-loop-place l = l.crossings ≡ l.initial.crossings ++ map (λ n. swapped (get_or l.cross n (0, 0))) (take l.place-index l.places)
