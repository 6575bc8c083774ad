use Rattle.std.proofs.Common.{take}
use Rattle.di_grammar.specs.Breaches.{FirstOf}
use Rattle.di_grammar.specs.Mirror.Homes.{BreaksAmong}
use Rattle.di_grammar.proofs.homes.unhoused.Given as goal

abbrev pub invariant-loop-index : goal.invariant-loop-index
invariant-loop-index l = FirstOf (BreaksAmong l.procs 1 (take l.index l.procs)) l.found
