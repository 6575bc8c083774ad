use Rattle.net_laws.proofs.JoinFork.{rounds_right}
use Rattle.net_laws.proofs.laws.rounds_net_law.Goals as goal

pub returns : goal.returns
returns c = rounds_right
