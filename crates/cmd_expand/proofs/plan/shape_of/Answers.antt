use Rattle.cmd_expand.specs.Mirror.Plan.{own}
use Rattle.cmd_expand.proofs.plan.shape_of.Goals as goal

pub returns-in_default : goal.returns-in_default
returns-in_default c = λ ms a d b. own

pub returns-in_default-2 : goal.returns-in_default-2
returns-in_default-2 c = λ ms a d b. own
