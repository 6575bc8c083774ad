use Rattle.net_core.proofs.Ends.{closed_by_ends, closed_by_counts}
use Rattle.net_core.proofs.laws.closed_law.Goals as goal

pub returns : goal.returns
returns c = λ d network. (closed_by_ends d network.wired, closed_by_counts d network.wired)
