use Rattle.place_graph.proofs.InOrder.{sorted_is}
use Rattle.place_graph.proofs.draw.sort.Goals as goal

pub returns : goal.returns
returns c = sorted_is _ _ c.sort_unstable.ensures.permutation c.sort_unstable.ensures.sorted
