use Rattle.std.proofs.Common.{take}
use Rattle.di_grammar.specs.Mirror.Homes.{KnowsKinds}
use Rattle.di_grammar.proofs.homes.homes_of.Given as goal

abbrev pub invariant-loop-index : goal.invariant-loop-index
invariant-loop-index l = KnowsKinds l.homes.grants.first l.homes.grants.second l.homes.others.stands (take l.index l.procs)
