use Rattle.std.proofs.Common.{◌≡◌}
use Rattle.basic_kinds.specs.ShapeParts.{exchanged_from}
use Rattle.shape_parts.proofs.layers.exchanged.Given as goal

abbrev pub invariant-loop-places : goal.invariant-loop-places
invariant-loop-places l = l.crossings ≡ exchanged_from 0 l.places-index l.cross
