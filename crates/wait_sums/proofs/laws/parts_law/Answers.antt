use Rattle.wait_sums.proofs.ConnectedParts.{parts_count}
use Rattle.wait_sums.proofs.laws.parts_law.Goals as goal

pub returns : goal.returns
returns c rows cols cross s within = parts_count rows cols cross s within
