use Rattle.std.proofs.Common.{None}
use Rattle.trace_laws.specs.Mirror.Faults.{BeginsAt, OfEach}
use Rattle.trace_laws.specs.Mirror.Improved.{Improved}
use Rattle.trace_laws.proofs.faults.least_beginning.Given as goal

-- what the traces so far show is offered
abbrev pub invariant-loop-word : goal.invariant-loop-word
invariant-loop-word l = Improved (OfEach (BeginsAt l.words) l.words l.word-index) None l.least
