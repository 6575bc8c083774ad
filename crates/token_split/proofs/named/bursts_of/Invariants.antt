use Rattle.std.proofs.Common.{◌≡◌, ◌++◌, map, drop}
use Rattle.token_split.specs.TokenChart as web
use Rattle.token_split.specs.Mirror.TokenTables.{wire_of}
use Rattle.token_split.proofs.named.bursts_of.Given as goal

abbrev pub invariant-loop-burst : goal.invariant-loop-burst
invariant-loop-burst l = map wire_of l.wires.items ++ map web.Burst (drop l.burst-index l.bursts) ≡ map web.Burst l.bursts
