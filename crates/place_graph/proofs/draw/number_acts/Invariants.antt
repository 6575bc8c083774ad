use Rattle.std.proofs.Common.{◌≡◌, ◌≤◌, nat_eq, length, drop}
use Rattle.place_graph.specs.declared.draw.TheConstants.{POINTS}
use Rattle.place_graph.specs.Graph.{with_new, points_of, acts_of, act_points}
use Rattle.place_graph.proofs.draw.number_acts.Given as goal

abbrev pub invariant-loop-leg : goal.invariant-loop-leg
invariant-loop-leg l = record {
  few : length l.acts.points ≤ l.leg-index;
  bound : l.acts.bound ≡ POINTS;
  points : with_new nat_eq l.acts.points (points_of (acts_of (drop l.leg-index l.legs))) ≡ act_points l.legs;
}
