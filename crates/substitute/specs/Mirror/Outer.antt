-- Mirror of what the code finds at a wire of a part: the environment's port there.
use Rattle.std.specs.Prelude.{◌≡◌, ℕ, ◌<◌, false, List, length, slice_get, slice_index}
use Rattle.net_core.specs.Wiring.{Circuit}
use Rattle.net_core.specs.Walk.{ends_at}
use Rattle.substitute.specs.Splice.{is_inner, renumber_at}

-- The wire has an end at port p of m's environment: it is fused with the wire at that port.
pub record IsOuter (m : Circuit) (w p : ℕ) : Type 0 where
  pub outer : is_inner m w ≡ false
  pub inside : p < length (ends_at (slice_get m.nodes 0))
  pub fused : (ends : List ℕ) (first : ℕ) → renumber_at ends first m w ≡ slice_index ends p
