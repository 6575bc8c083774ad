use Rattle.std.proofs.Common.{◌≡◌, ◌++◌, take}
use Rattle.place_graph.specs.GraphTraces.{numbers_of}
use Rattle.count_sum.proofs.graphs.push_numbers.Given as goal

abbrev pub invariant-loop-symbol : goal.invariant-loop-symbol
invariant-loop-symbol l = l.numbers.items ≡ l.initial.numbers.items ++ numbers_of (take l.symbol-index l.symbols)
