use Rattle.std.proofs.Common.{take}
use Rattle.replay.specs.ScheduleText.{Lacks}
use Rattle.replay.proofs.pieces.cut_at.Given as goal

-- the byte was not met so far
abbrev pub invariant-loop-index : goal.invariant-loop-index
invariant-loop-index l = Lacks l.separator (take l.index l.text)
