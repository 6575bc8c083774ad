use Rattle.wait_sums.proofs.ConnectedParts.{itself}
use Rattle.wait_sums.proofs.laws.small_law.Goals as goal

pub returns : goal.returns
returns c rows cols cross s shape one narrow low several = itself rows cols cross shape one s narrow low several
