use Rattle.net_core.proofs.Reordered.{preserved}
use Rattle.net_core.proofs.laws.renumber_law.Goals as goal

pub returns : goal.returns
returns c = λ d e network closed k. preserved d e k network closed
