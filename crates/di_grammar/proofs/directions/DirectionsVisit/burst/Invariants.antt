use Rattle.std.proofs.Common.{List, ◌++◌, take}
use Rattle.di_grammar.specs.declared.spots.Spot.{Spot}
use Rattle.di_grammar.specs.Spots.{spots_from}
use Rattle.di_grammar.specs.Mirror.Seen.{Knows}
use Rattle.di_grammar.proofs.directions.DirectionsVisit.burst.Given as goal

abbrev pub invariant-loop-index : goal.invariant-loop-index
invariant-loop-index l = (ss : List Spot) → Knows l.initial.self.first l.initial.self.found ss
    → Knows l.self.first l.self.found (ss ++ spots_from l.number l.place (take l.index l.marks))
