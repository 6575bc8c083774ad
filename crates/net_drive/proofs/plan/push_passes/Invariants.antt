use Rattle.std.proofs.Common.{◌≡◌, ◌++◌, map}
use Rattle.std.specs.List.{range_with_len}
use Rattle.replay.specs.declared.event.Event.TheVariants.{Pass}
use Rattle.net_drive.proofs.plan.push_passes.Given as goal

abbrev pub invariant-loop-wire : goal.invariant-loop-wire
invariant-loop-wire l = l.events.items ≡ l.fn.events.items ++ map Pass (range_with_len 0 l.wire)
