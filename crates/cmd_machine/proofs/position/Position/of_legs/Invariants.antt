use Rattle.std.proofs.Common.{◌≤◌, length, take}
use Rattle.place_graph.specs.declared.leg.Leg.{Leg}
use Rattle.place_graph.specs.Points.{Among}
use Rattle.cmd_machine.specs.Mirror.Positions.{FindsLegs}
use Rattle.cmd_machine.proofs.position.Position.of_legs.Given as goal

-- the legs so far are entered, and none of them is longer
abbrev pub invariant-loop-leg : goal.invariant-loop-leg
invariant-loop-leg l = record {
  found : FindsLegs (take l.leg-index l.legs) l.spots;
  most : (m : Leg) → Among (take l.leg-index l.legs) m → length m.marks ≤ l.most;
}
