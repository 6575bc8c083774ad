use Rattle.net_core.proofs.WalkStates.{begins_walk}
use Rattle.net_core.proofs.walk.WalkState.through.Goals as goal

pub visit_all-requires-clause-walks : goal.visit_all-requires-clause-walks
visit_all-requires-clause-walks c = begins_walk c.args.net.now c.in_ok-walk.walk c.in_ok-walk.ensures.sized c.in_ok-walk.ensures.outset
