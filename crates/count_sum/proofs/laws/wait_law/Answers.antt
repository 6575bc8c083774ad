use Rattle.count_sum.proofs.WaitBound.{wait_bound}
use Rattle.count_sum.proofs.laws.wait_law.Goals as goal

pub returns : goal.returns
returns c = wait_bound
