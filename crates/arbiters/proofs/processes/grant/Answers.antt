use Rattle.std.proofs.Common.{arith}
use Rattle.std.proofs.lemmas.Grind.{common_steps}
use Rattle.arbiters.specs.Arbiter.{clients}
use Rattle.arbiters.specs.Mirror.Loans.{loan}
use Rattle.arbiters.proofs.Ranges.{push_next}
use Rattle.arbiters.proofs.Limits.{loans_are}
use Rattle.arbiters.proofs.processes.grant.Goals as goal

pub loop-index-preserved : goal.loop-index-preserved
loop-index-preserved c = push_next loan c.loop-index.index c.loop-index.loans c.push.new.self c.in_ok-loan.loan c.loop-index.invariant c.in_ok-loan.ensures c.in_ok-push.ensures.ok

pub returns : goal.returns
returns c = grind (arith, common_steps, loans_are (clients c.args.clients))
