use Rattle.std.proofs.Common.{take}
use Rattle.di_grammar.specs.Spots.{spots}
use Rattle.di_grammar.specs.Mirror.Seen.{Knows}
use Rattle.di_grammar.proofs.directions.turned.Given as goal

abbrev pub invariant-loop-index : goal.invariant-loop-index
invariant-loop-index l = Knows l.directions.first l.directions.found (spots (take l.index l.procs))
