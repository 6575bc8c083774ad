use Rattle.std.proofs.Common.{◌≡◌, take}
use Rattle.place_graph.specs.Graph.{syms}
use Rattle.place_graph.proofs.draw.symbols.Given as goal

abbrev pub invariant-loop-mark : goal.invariant-loop-mark
invariant-loop-mark l = l.symbols ≡ syms (take l.mark-index l.mark-items)
