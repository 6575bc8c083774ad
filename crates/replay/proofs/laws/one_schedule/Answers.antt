use Rattle.replay.proofs.Scheduled.{same_schedule, no_schedule, same_line}
use Rattle.replay.proofs.laws.one_schedule.Goals as goal

pub returns : goal.returns
returns c = record { events = same_schedule; line = same_line; either = no_schedule }
