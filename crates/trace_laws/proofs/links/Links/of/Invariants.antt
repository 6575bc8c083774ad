use Rattle.trace_laws.specs.Mirror.Links.{IsLinks}
use Rattle.trace_laws.proofs.links.Links.of.Given as goal

-- what is filled so far is right
abbrev pub invariant-loop-place : goal.invariant-loop-place
invariant-loop-place l = IsLinks l.words l.links
