use Rattle.net_core.proofs.Noting.{Noted}
use Rattle.net_core.proofs.table.note_ports.Given as goal

abbrev pub invariant-loop-number : goal.invariant-loop-number
invariant-loop-number l = Noted l.initial.ends l.ends l.node l.outs l.wires l.number
