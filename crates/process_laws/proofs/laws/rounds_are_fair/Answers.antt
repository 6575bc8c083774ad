use Rattle.process_laws.proofs.RoundsFair.{rounds_fair}
use Rattle.process_laws.proofs.laws.rounds_are_fair.Goals as goal

pub returns : goal.returns
returns c = rounds_fair
