use Rattle.net_laws.proofs.SideBySide.{forks_right}
use Rattle.net_laws.proofs.laws.forks_net_law.Goals as goal

pub returns : goal.returns
returns c = forks_right
