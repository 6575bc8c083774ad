use Rattle.cmd_alone.proofs.Own.{woven_alone}
use Rattle.cmd_alone.proofs.laws.weave_law.Goals as goal

pub returns : goal.returns
returns c = woven_alone
