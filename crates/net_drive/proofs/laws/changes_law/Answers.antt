use Rattle.net_drive.proofs.Changing.{kept}
use Rattle.net_drive.proofs.laws.changes_law.Goals as goal

pub returns : goal.returns
returns c = kept
