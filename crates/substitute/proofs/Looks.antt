-- The loop that looks at each part, one step at a time.
use Rattle.std.proofs.Common.{◌≡◌, ◌↔◌, ℕ, ◌+◌, ◌<◌, List, drop, Option}
use Rattle.net_core.specs.Wiring.{Circuit}
use Rattle.substitute.specs.Splices.{FitEach, wires_in}

-- the parts before place i fit, and leave room for so many wires below the bound
pub record Looks (c : Circuit) (ps : List (Option Circuit)) (many room i : ℕ) : Type 0 where
  pub some : 0 < room
  pub fits : FitEach c 1 ps ↔ FitEach c (i + 1) (drop i ps)
  pub sum : c.wires + wires_in ps + room ≡ many + wires_in (drop i ps)
