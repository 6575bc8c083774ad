-- When a network cannot take the place of a node, and why.
use Rattle.std.specs.Prelude.{◌≡◌, ℕ, ◌<◌, slice_get}
use Rattle.net_core.specs.Wiring.{Circuit}
use Rattle.net_core.specs.Networks.{spec_of, IsThrough}
use Rattle.substitute.specs.Splice.{driver, receiver}
use Rattle.substitute.specs.declared.whole.SpliceRefusal.{SpliceRefusal}
use Rattle.substitute.specs.declared.whole.SpliceRefusal.TheVariants.{SpecDiffers, ThroughWire, SelfWire, NoMemory}

-- node a of c is specified as the environment of m is
abbrev pub IsSame : Circuit → ℕ → Circuit → Type 0
IsSame c a m = spec_of (slice_get c.nodes a) ≡ spec_of (slice_get m.nodes 0)

-- the wire goes from node a to node a
abbrev pub IsAround : Circuit → ℕ → ℕ → Type 0
IsAround c a w = (driver c w ≡ a) × (receiver c w ≡ a)

-- P holds of none of the numbers below n
abbrev pub IsNone : (ℕ → Type 0) → ℕ → Type 0
IsNone P n = (v : ℕ) → v < n → P v → ⊥

-- w is the least number below n of which P holds
abbrev pub IsLeast : (ℕ → Type 0) → ℕ → ℕ → Type 0
IsLeast P n w = (w < n) × P w × ((v : ℕ) → v < w → P v → ⊥)

-- why m does not take the place of node a of c
abbrev pub Refuses : Circuit → ℕ → Circuit → SpliceRefusal → Type 0
Refuses c a m SpecDiffers = IsSame c a m → ⊥
Refuses c a m (ThroughWire w) = IsSame c a m × IsLeast (IsThrough m) m.wires w
Refuses c a m (SelfWire w) = IsSame c a m × IsNone (IsThrough m) m.wires × IsLeast (IsAround c a) c.wires w
Refuses c a m NoMemory = IsSame c a m
