use Rattle.net_drive.proofs.Once.{once}
use Rattle.net_drive.proofs.laws.one_drawn.Goals as goal

pub returns : goal.returns
returns c = once
