use Rattle.wait_sums.proofs.Renamed.{crossings_count}
use Rattle.wait_sums.proofs.laws.crossings_law.Goals as goal

pub returns : goal.returns
returns c rows cols cross s within = crossings_count rows cols cross within s
