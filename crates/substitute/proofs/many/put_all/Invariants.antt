use Rattle.substitute.proofs.Passes.{Pass}
use Rattle.substitute.proofs.many.put_all.Given as goal

abbrev pub invariant-loop-place : goal.invariant-loop-place
invariant-loop-place l = Pass l.net l.parts l.whole.nodes.items l.whole.wires l.place
