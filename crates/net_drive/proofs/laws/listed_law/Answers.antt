use Rattle.net_drive.proofs.Listed.{may_listed}
use Rattle.net_drive.proofs.laws.listed_law.Goals as goal

pub returns : goal.returns
returns c = may_listed
