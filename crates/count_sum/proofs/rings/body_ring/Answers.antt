use Rattle.count_sum.proofs.RingSteps.{body_many}
use Rattle.count_sum.proofs.rings.body_ring.Goals as goal

pub returns-in_default-2 : goal.returns-in_default-2
returns-in_default-2 c = body_many c.args.items.now c.in_default.len_at_least
