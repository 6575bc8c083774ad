use Rattle.std.proofs.Common.{◌≡◌, ◌++◌, map, drop}
use Rattle.plain_split.specs.OneWait as web
use Rattle.plain_split.specs.Mirror.OneWaitTables.{wire_of}
use Rattle.plain_split.proofs.named.bursts_from.Given as goal

abbrev pub invariant-loop-act : goal.invariant-loop-act
invariant-loop-act l = map wire_of l.wires.items ++ map (web.Burst l.burst) (drop l.act-index l.acts) ≡ map (web.Burst l.burst) l.acts
