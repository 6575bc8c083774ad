-- The places of wires by their names.
use Rattle.std.specs.Prelude.{◌≡◌, Bool, List, length, map, unwrap_or}
use Rattle.std.specs.HashMap.{get}
use Rattle.plain_split.specs.SharedPaths.{place}
use Rattle.weave_split.specs.declared.paths.Wire.{Wire}
use Rattle.weave_split.specs.declared.numbered.WirePlaces.{WirePlaces}
use Rattle.weave_split.specs.contracts.paths.WirePartialEq.TheImpl as wire_same
use Rattle.weave_split.specs.WeaveChart.{same_wire}
use Rattle.weave_split.specs.Mirror.TieTables.{wire_of}

-- how the code compares wires
abbrev pub wire_eq : Wire → Wire → Bool
wire_eq = (wire_same.ghosts).eq

-- each wire has its place among these
pub record ArePlaces (t : WirePlaces) (lines : List Wire) : Type 0 where
  pub many : t.many ≡ length lines
  pub places : (w : Wire) → unwrap_or (get wire_eq t.places w) t.many ≡ place same_wire (map wire_of lines) (wire_of w)
