use Rattle.std.proofs.Common.{None}
use Rattle.trace_laws.specs.Listed.{output_by}
use Rattle.trace_laws.specs.Mirror.Faults.{CarriesOf, OfEach}
use Rattle.trace_laws.specs.Mirror.Improved.{Improved}
use Rattle.trace_laws.proofs.faults.least_carry.Given as goal

-- what the traces so far show is offered
abbrev pub invariant-loop-word : goal.invariant-loop-word
invariant-loop-word l = Improved (OfEach (CarriesOf (output_by l.dirs) l.words) l.words l.word-index) None l.least
