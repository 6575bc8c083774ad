use Rattle.process_laws.proofs.PlainGrants.{plain_traces}
use Rattle.process_laws.proofs.laws.plain_grant_law.Goals as goal

pub returns : goal.returns
returns c = λ n ps more apart. plain_traces n ps apart more
