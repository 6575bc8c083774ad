use Rattle.tree_walk.proofs.Joined.{either_joined}
use Rattle.tree_walk.proofs.edges.ByDirection.or.Goals as goal

pub returns : goal.returns
returns c = λ bs cs a b. either_joined c.args.self c.args.more bs cs c.or.result c.or-2.result c.or.ensures c.or-2.ensures a b
