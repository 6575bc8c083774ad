use Rattle.std.proofs.Common.{length}
use Rattle.replay.specs.Mirror.Schedules.{SoFar}
use Rattle.replay.proofs.schedule.read_events.Given as goal

-- the lines before this one are read
abbrev pub invariant-loop-text : goal.invariant-loop-text
invariant-loop-text l = SoFar l.names l.bytes l.events.items l.rest l.line

abbrev pub decreases-loop-text : goal.decreases-loop-text
decreases-loop-text l = length l.rest
