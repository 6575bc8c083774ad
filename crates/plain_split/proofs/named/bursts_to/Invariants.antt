use Rattle.std.proofs.Common.{◌≡◌, ◌++◌, map, drop}
use Rattle.plain_split.specs.OneWait as web
use Rattle.plain_split.specs.Mirror.OneWaitTables.{wire_of}
use Rattle.plain_split.proofs.named.bursts_to.Given as goal

abbrev pub invariant-loop-burst : goal.invariant-loop-burst
invariant-loop-burst l = map wire_of l.wires.items ++ map (λ b. web.Burst b l.act) (drop l.burst-index l.bursts) ≡ map (λ b. web.Burst b l.act) l.bursts
