use Rattle.std.proofs.Common.{◌≡◌, ◌≤◌, nat_eq, length, drop}
use Rattle.place_graph.specs.declared.draw.TheConstants.{POINTS}
use Rattle.place_graph.specs.Graph.{with_new, points_of, inputs_of, wait_points}
use Rattle.place_graph.proofs.draw.number_waits.Given as goal

abbrev pub invariant-loop-leg : goal.invariant-loop-leg
invariant-loop-leg l = record {
  few : length l.waits.points ≤ l.leg-index;
  bound : l.waits.bound ≡ POINTS;
  points : with_new nat_eq l.waits.points (points_of (inputs_of (drop l.leg-index l.legs))) ≡ wait_points
      l.legs;
}
