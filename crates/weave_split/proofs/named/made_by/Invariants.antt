use Rattle.std.proofs.Common.{◌≡◌, ◌++◌, map, drop}
use Rattle.weave_split.specs.WeaveChart as web
use Rattle.weave_split.specs.Mirror.TieTables.{wire_of}
use Rattle.weave_split.proofs.named.made_by.Given as goal

abbrev pub invariant-loop-process : goal.invariant-loop-process
invariant-loop-process l = map wire_of l.wires.items ++ map (λ p. web.Made l.symbol p) (drop l.process-index l.processes) ≡ map (λ p. web.Made l.symbol p) l.processes
