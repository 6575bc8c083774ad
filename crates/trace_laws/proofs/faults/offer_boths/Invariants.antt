use Rattle.trace_laws.specs.Listed.{output_by}
use Rattle.trace_laws.specs.Mirror.Faults.{BothAt, OfEach}
use Rattle.trace_laws.specs.Mirror.Improved.{Improved}
use Rattle.trace_laws.proofs.faults.offer_boths.Given as goal

-- the traces so far are looked at as the other one
abbrev pub invariant-loop-other : goal.invariant-loop-other
invariant-loop-other l = Improved (OfEach (BothAt (output_by l.dirs) l.words l.word) l.words l.other-index) l.fn.least l.now
