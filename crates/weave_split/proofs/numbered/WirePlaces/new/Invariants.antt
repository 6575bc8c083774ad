use Rattle.std.proofs.Common.{◌≡◌, None, Some, nat_eq, take}
use Rattle.std.specs.Prelude.{if◌then◌else◌}
use Rattle.std.specs.List.{position_or_len}
use Rattle.std.specs.HashMap.{get}
use Rattle.weave_split.specs.declared.paths.Wire.{Wire}
use Rattle.weave_split.specs.Mirror.WirePlaces.{wire_eq}
use Rattle.weave_split.proofs.numbered.WirePlaces.new.Given as goal

abbrev pub invariant-loop-place : goal.invariant-loop-place
invariant-loop-place l = (q : Wire) → get wire_eq l.places q
    ≡ (if nat_eq (position_or_len (wire_eq q) (take l.place l.lines)) l.place then None else Some (position_or_len (wire_eq q) (take l.place l.lines)))
