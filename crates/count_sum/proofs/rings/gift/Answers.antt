use Rattle.count_sum.proofs.RingSteps.{gift_many}
use Rattle.count_sum.proofs.rings.gift.Goals as goal

pub returns-in_default-2 : goal.returns-in_default-2
returns-in_default-2 c = gift_many c.args.items.now c.in_default.len_at_least
