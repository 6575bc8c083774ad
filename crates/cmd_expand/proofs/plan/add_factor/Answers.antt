use Rattle.std.proofs.Common.{length}
use Rattle.cmd_expand.proofs.plan.add_factor.Goals as goal

pub returns-in_ok-add_own-in-Own-clause-below : goal.returns-in_ok-add_own-in-Own-clause-below
returns-in_ok-add_own-in-Own-clause-below c = c.in_ok-add_own-in-Own.ensures.below (length c.args.plan.now.lines.items)
