use Rattle.std.proofs.Common.{◌≡◌, ◌++◌, map, drop}
use Rattle.place_graph.specs.Graph.{acts_of, act}
use Rattle.place_graph.proofs.draw.exits.Given as goal

abbrev pub invariant-loop-leg : goal.invariant-loop-leg
invariant-loop-leg l = l.acts ++ map (act l.legs) (acts_of (drop l.leg-index l.legs)) ≡ map (act l.legs)
    (acts_of l.legs)
