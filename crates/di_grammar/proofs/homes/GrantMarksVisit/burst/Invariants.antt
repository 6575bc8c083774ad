use Rattle.std.proofs.Common.{List, ◌++◌, take}
use Rattle.di_grammar.specs.declared.spots.Spot.{Spot}
use Rattle.di_grammar.specs.Spots.{spots_from}
use Rattle.di_grammar.specs.Mirror.Homes.{GrantsSeen}
use Rattle.di_grammar.proofs.homes.GrantMarksVisit.burst.Given as goal

abbrev pub invariant-loop-index : goal.invariant-loop-index
invariant-loop-index l = (ss : List Spot) → GrantsSeen l.initial.self.first l.initial.self.second ss
    → GrantsSeen l.self.first l.self.second (ss ++ spots_from l.number l.place (take l.index l.marks))
