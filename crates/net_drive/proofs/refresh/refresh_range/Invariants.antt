use Rattle.std.proofs.Common.{◌≡◌, ◌⊎◌, ℕ, ◌+◌, ◌-◌, ◌<◌, ◌≤◌, false, length, get_or}
use Rattle.replay.specs.Answers.{state_of}
use Rattle.net_drive.specs.Mirror.Refreshing.{IsRight}
use Rattle.net_drive.proofs.refresh.refresh_range.Given as goal

-- those before this one are tested
abbrev pub invariant-loop-number : goal.invariant-loop-number
invariant-loop-number g l = record {
  long : length l.index ≡ length l.fn.index;
  course : l.replay.course ≡ l.fn.replay.course;
  probes : l.replay.probes ≡ l.fn.replay.probes;
  asked : l.replay.asked ≤ l.fn.replay.asked + (l.number - l.from);
  right : (i : ℕ) → l.from ≤ i → i < l.number → IsRight l.fn.replay.course.net (state_of l.fn.replay.course) l.events l.index i;
  others : (i : ℕ) → (i < l.from) ⊎ (l.number ≤ i) → get_or l.index i false ≡ get_or l.fn.index i false;
  end : (l.number ≤ l.to) ⊎ (l.number ≡ l.from);
}
