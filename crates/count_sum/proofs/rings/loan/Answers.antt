use Rattle.count_sum.proofs.RingSteps.{loan_few, loan_many}
use Rattle.count_sum.proofs.rings.loan.Goals as goal

pub returns-in_default : goal.returns-in_default
returns-in_default c = loan_few c.args.items.now c.in_default.len_below

pub returns-in_default-2 : goal.returns-in_default-2
returns-in_default-2 c = loan_many c.args.items.now c.in_default.len_at_least
