use Rattle.std.proofs.Common.{None}
use Rattle.trace_laws.specs.Listed.{output_by}
use Rattle.trace_laws.specs.Mirror.Faults.{SwapsOf, OfEach}
use Rattle.trace_laws.specs.Mirror.Improved.{Improved}
use Rattle.trace_laws.proofs.faults.least_swap.Given as goal

-- what the traces so far show is offered
abbrev pub invariant-loop-word : goal.invariant-loop-word
invariant-loop-word l = Improved (OfEach (SwapsOf (output_by l.dirs) l.words) l.words l.word-index) None l.least
