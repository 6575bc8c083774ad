use Rattle.std.proofs.Common.{◌≡◌, ◌++◌, map, drop}
use Rattle.weave_split.specs.WeaveChart as web
use Rattle.weave_split.specs.Mirror.TieTables.{wire_of}
use Rattle.weave_split.proofs.named.backs.Given as goal

abbrev pub invariant-loop-symbol : goal.invariant-loop-symbol
invariant-loop-symbol l = map wire_of l.wires.items ++ map (λ s. web.Back s l.process) (drop l.symbol-index l.symbols) ≡ map (λ s. web.Back s l.process) l.symbols
