use Rattle.std.proofs.Common.{length}
use Rattle.net_core.proofs.FirstMarks.{Directed}
use Rattle.net_core.proofs.spec.command_directions.Given as goal

abbrev pub invariant-loop-mark : goal.invariant-loop-mark
invariant-loop-mark l = Directed l.mark-items (length l.command.names) l.outs.items l.mark-index
