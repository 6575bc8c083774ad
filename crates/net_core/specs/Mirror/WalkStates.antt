-- Mirror of the state of the code that walks: the walk that it stands for.
use Rattle.std.specs.Prelude.{◌≡◌, length}
use Rattle.net_core.specs.declared.walk.WalkState.{WalkState}
use Rattle.net_core.specs.Wiring.{Circuit}
use Rattle.net_core.specs.Walk.{Walk, outset}
use Rattle.net_core.specs.Mirror.Walking.{Leads}

abbrev pub walk_in : WalkState → Walk
walk_in s = record { listed = s.listed.numbers; numbered = s.numbered.numbers; visited = s.visited }

-- there is a mark for each node and for each wire
pub record IsSized (c : Circuit) (s : WalkState) : Type 0 where
  pub nodes : s.listed.bound ≡ length c.nodes
  pub wires : s.numbered.bound ≡ c.wires

-- the state is one of the network's walk
pub record Walks (c : Circuit) (s : WalkState) : Type 0 where
  pub sized : IsSized c s
  pub comes : Leads c (outset c) (walk_in s)
