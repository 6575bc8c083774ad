use Rattle.trace_laws.specs.Listed.{output_by}
use Rattle.trace_laws.specs.Mirror.Faults.{OfEach}
use Rattle.trace_laws.specs.Mirror.Followers.{LacksOf}
use Rattle.trace_laws.specs.Mirror.Improved.{Improved}
use Rattle.trace_laws.proofs.followers.offer_lacking.Given as goal

-- the traces so far are offered where they lack a sibling
abbrev pub invariant-loop-word : goal.invariant-loop-word
invariant-loop-word l = Improved (OfEach (LacksOf (output_by l.dirs) l.side l.words) l.words l.word-index) l.fn.least l.now
