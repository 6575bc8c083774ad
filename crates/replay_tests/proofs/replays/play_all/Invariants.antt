use Rattle.std.proofs.Common.{◌+◌, ◌≤◌, length}
use Rattle.replay_tests.proofs.replays.play_all.Given as goal

-- there is room for the events that are left
abbrev pub invariant-loop-event : goal.invariant-loop-event
invariant-loop-event g l = length l.events ≤ l.replay.course.room + l.event-index
