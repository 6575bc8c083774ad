use Rattle.std.proofs.Common.{◌≡◌, ◌++◌, map, drop}
use Rattle.place_graph.specs.Graph.{inputs_of, cross}
use Rattle.place_graph.proofs.draw.crosses.Given as goal

abbrev pub invariant-loop-leg : goal.invariant-loop-leg
invariant-loop-leg l = l.crosses.items ++ map (cross l.legs) (inputs_of (drop l.leg-index l.legs)) ≡ map
    (cross l.legs) (inputs_of l.legs)
