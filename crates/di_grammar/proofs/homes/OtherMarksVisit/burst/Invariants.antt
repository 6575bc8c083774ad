use Rattle.std.proofs.Common.{List, ◌++◌, take}
use Rattle.di_grammar.specs.declared.spots.Spot.{Spot}
use Rattle.di_grammar.specs.Spots.{spots_from}
use Rattle.di_grammar.specs.Mirror.Homes.{HomesSeen}
use Rattle.di_grammar.proofs.homes.OtherMarksVisit.burst.Given as goal

abbrev pub invariant-loop-index : goal.invariant-loop-index
invariant-loop-index l = (ss : List Spot) → HomesSeen l.initial.self.stands ss
    → HomesSeen l.self.stands (ss ++ spots_from l.number l.place (take l.index l.marks))
