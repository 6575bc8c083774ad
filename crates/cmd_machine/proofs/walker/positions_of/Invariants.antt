use Rattle.std.proofs.Common.{[], take}
use Rattle.cmd_machine.specs.Mirror.Walkers.{StandEach}
use Rattle.cmd_machine.proofs.walker.positions_of.Given as goal

-- the processes so far have their positions
abbrev pub invariant-loop-process : goal.invariant-loop-process
invariant-loop-process l = StandEach (take l.process-index l.process-items) l.positions.items []
