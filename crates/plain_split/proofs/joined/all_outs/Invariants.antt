use Rattle.std.proofs.Common.{◌≡◌, ◌++◌, map, drop}
use Rattle.place_graph.specs.GraphTraces.{numbers_of}
use Rattle.plain_split.proofs.joined.all_outs.Given as goal

abbrev pub invariant-loop-act : goal.invariant-loop-act
invariant-loop-act l = map (λ xs. xs.items) l.all.items ++ map (λ y. numbers_of y.outs) (drop l.act-index l.acts) ≡ map (λ y. numbers_of y.outs) l.acts
