use Rattle.wait_sums.proofs.ConnectedParts.{rows_layer}
use Rattle.wait_sums.proofs.laws.connected_law.Goals as goal

pub returns : goal.returns
returns c rows cols cross s shape one wide = rows_layer rows cols cross shape one s wide
