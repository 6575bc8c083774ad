use Rattle.std.proofs.Common.{◌≡◌, ℕ, ◌+◌, ◌<◌, ◌≤◌, length, get_or}
use Rattle.replay.specs.Answers.{state_of}
use Rattle.net_drive.specs.Mirror.Refreshing.{AreTested, fresh}
use Rattle.net_drive.proofs.refresh.refresh_gives.Given as goal

-- the numbers so far are tested
abbrev pub invariant-loop-number : goal.invariant-loop-number
invariant-loop-number g l = record {
  tested : AreTested l.fn.replay.course.net (state_of l.fn.replay.course) l.events l.fn.known.index l.known.index l.fn.known.tested.items l.known.tested.items l.step;
  done : (j : ℕ) → j < l.number-index → get_or l.numbers j 0 < length l.fn.known.tested.items
      → get_or l.known.tested.items (get_or l.numbers j 0) 0 ≡ l.step;
  course : l.replay.course ≡ l.fn.replay.course;
  probes : l.replay.probes ≡ l.fn.replay.probes;
  asked : l.replay.asked + fresh l.step l.known.tested.items ≤ l.fn.replay.asked + fresh l.step l.fn.known.tested.items;
}
