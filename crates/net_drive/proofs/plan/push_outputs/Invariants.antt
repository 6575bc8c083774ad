use Rattle.std.proofs.Common.{◌≡◌, ◌++◌, map}
use Rattle.std.specs.List.{range_with_len}
use Rattle.replay.specs.declared.event.Event.TheVariants.{Fire}
use Rattle.net_drive.proofs.plan.push_outputs.Given as goal

abbrev pub invariant-loop-output : goal.invariant-loop-output
invariant-loop-output l = l.events.items ≡ l.fn.events.items ++ map (Fire l.component) (range_with_len 1 l.output)
