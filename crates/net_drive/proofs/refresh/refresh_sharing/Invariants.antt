use Rattle.std.proofs.Common.{◌≡◌, ℕ, ◌+◌, ◌<◌, ◌≤◌, length, get_or, map}
use Rattle.cmd_machine.specs.Mirror.Walkers.{row_at}
use Rattle.place_graph.specs.Points.{OneOf}
use Rattle.replay.specs.Answers.{state_of}
use Rattle.net_drive.specs.Mirror.Refreshing.{AreTested, fresh}
use Rattle.net_drive.proofs.refresh.refresh_sharing.Given as goal

-- the gives of the processes so far are tested
abbrev pub invariant-loop-user : goal.invariant-loop-user
invariant-loop-user g l = record {
  tested : AreTested l.fn.replay.course.net (state_of l.fn.replay.course) l.plan.events.items l.fn.known.index l.known.index l.fn.known.tested.items l.known.tested.items l.step;
  done : (j : ℕ) → j < l.user-index → (i : ℕ) → OneOf (row_at (map (λ row. row.items) l.plan.sharing.gives.items) (get_or l.user-items j 0)) i
      → i < length l.fn.known.tested.items → get_or l.known.tested.items i 0 ≡ l.step;
  course : l.replay.course ≡ l.fn.replay.course;
  probes : l.replay.probes ≡ l.fn.replay.probes;
  asked : l.replay.asked + fresh l.step l.known.tested.items ≤ l.fn.replay.asked + fresh l.step l.fn.known.tested.items;
}
