use Rattle.std.proofs.Common.{◌≡◌, ◌<◌, drop}
use Rattle.place_graph.specs.Mirror.InTurn.{are_in_turn}
use Rattle.place_graph.proofs.styles.are_in_turn.Given as goal

abbrev pub invariant-loop-cross : goal.invariant-loop-cross
invariant-loop-cross l = record {
  there : l.next < l.acts;
  rest : are_in_turn l.acts l.next (drop l.cross-index l.crosses) ≡ are_in_turn l.acts l.first l.crosses;
}
