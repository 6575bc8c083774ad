use Rattle.trace_laws.specs.Listed.{output_by}
use Rattle.trace_laws.specs.Mirror.Faults.{SwapAt}
use Rattle.trace_laws.specs.Mirror.Improved.{Improved, Below}
use Rattle.trace_laws.proofs.places.offer_swaps.Given as goal

-- the places so far are offered
abbrev pub invariant-loop-place : goal.invariant-loop-place
invariant-loop-place l = Improved (Below (SwapAt (output_by l.dirs) l.words l.word) l.place) l.initial.least l.least
