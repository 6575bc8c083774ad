use Rattle.std.proofs.Common.{◌≡◌, ◌++◌, map, filter, drop}
use Rattle.weave_split.specs.WeaveChart as web
use Rattle.weave_split.specs.Mirror.TieTables.{ties_by, wire_of}
use Rattle.weave_split.proofs.named.makes.Given as goal

abbrev pub invariant-loop-symbol : goal.invariant-loop-symbol
invariant-loop-symbol l =
    map wire_of l.wires.items ++ map (λ s. web.Made s l.process) (filter (ties_by l.tables).out (drop l.symbol-index l.symbols))
    ≡ map (λ s. web.Made s l.process) (filter (ties_by l.tables).out l.symbols)
