use Rattle.std.proofs.Common.{◌≡◌, ◌++◌, map, drop}
use Rattle.place_graph.specs.GraphTraces.{numbers_of}
use Rattle.plain_split.proofs.joined.all_symbols.Given as goal

abbrev pub invariant-loop-burst : goal.invariant-loop-burst
invariant-loop-burst l = map (λ xs. xs.items) l.all.items ++ map numbers_of (drop l.burst-index l.bursts) ≡ map numbers_of l.bursts
