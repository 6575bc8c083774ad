use Rattle.arbiters.specs.Arbiter.{client}
use Rattle.arbiters.proofs.Ranges.{push_next}
use Rattle.arbiters.proofs.processes.processes.Goals as goal

pub loop-index-preserved : goal.loop-index-preserved
loop-index-preserved c = push_next client c.loop-index.index c.loop-index.processes c.push.new.self c.in_ok-process.process c.loop-index.invariant c.in_ok-process.ensures c.in_ok-push.ensures.ok
