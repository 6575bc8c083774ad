use Rattle.count_sum.proofs.TwoWayBound.{command_low}
use Rattle.count_sum.proofs.laws.command_law.Goals as goal

pub returns : goal.returns
returns c = command_low
