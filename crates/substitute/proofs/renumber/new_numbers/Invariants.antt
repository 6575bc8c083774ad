use Rattle.substitute.proofs.Outer.{Numbered}
use Rattle.substitute.proofs.renumber.new_numbers.Given as goal

abbrev pub invariant-loop-wire : goal.invariant-loop-wire
invariant-loop-wire l = Numbered l.ends l.wires l.sub l.table.items l.next l.wire
