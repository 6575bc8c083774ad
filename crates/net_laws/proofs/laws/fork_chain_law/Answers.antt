use Rattle.net_laws.proofs.Chain.{chain_right}
use Rattle.net_laws.proofs.laws.fork_chain_law.Goals as goal

pub returns : goal.returns
returns c = chain_right
