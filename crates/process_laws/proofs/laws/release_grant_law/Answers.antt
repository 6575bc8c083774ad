use Rattle.process_laws.proofs.ReleaseGrants.{release_traces}
use Rattle.process_laws.proofs.laws.release_grant_law.Goals as goal

pub returns : goal.returns
returns c = λ gs more apart. release_traces gs apart more
