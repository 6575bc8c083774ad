use Rattle.std.proofs.Common.{◌≡◌, ◌++◌, map, filter, drop}
use Rattle.std.specs.Prelude.{not}
use Rattle.weave_split.specs.WeaveChart as web
use Rattle.weave_split.specs.Mirror.TieTables.{ties_by, wire_of}
use Rattle.weave_split.proofs.named.copies_to.Given as goal

abbrev pub invariant-loop-symbol : goal.invariant-loop-symbol
invariant-loop-symbol l =
    map wire_of l.wires.items ++ map (λ s. web.Copy s l.process) (filter (λ s. not ((ties_by l.tables).out s)) (drop l.symbol-index l.symbols))
    ≡ map (λ s. web.Copy s l.process) (filter (λ s. not ((ties_by l.tables).out s)) l.symbols)
