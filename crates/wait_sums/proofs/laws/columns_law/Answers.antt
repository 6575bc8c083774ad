use Rattle.wait_sums.proofs.ConnectedParts.{columns_layer}
use Rattle.wait_sums.proofs.laws.columns_law.Goals as goal

pub returns : goal.returns
returns c rows cols cross s shape one narrow wide = columns_layer rows cols cross shape one s narrow wide
