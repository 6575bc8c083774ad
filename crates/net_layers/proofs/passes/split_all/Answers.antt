use Rattle.std.proofs.Common.{subst, arith}
use Rattle.net_layers.specs.Mirror.Laid.{IsLayered}
use Rattle.net_layers.proofs.Layered.{still_splittable, split_on, splittable_few, numbers_in}
use Rattle.net_layers.proofs.passes.split_all.Goals as goal

pub loop-whole-preserved : goal.loop-whole-preserved
loop-whole-preserved c =
    let t = subst (IsLayered c.loop-whole.whole) c.in-Some.is c.in_ok-next.ensures in
    let i = c.loop-whole.invariant in
    (still_splittable c.loop-whole.whole c.in-Some.next i.0 t.0, split_on c.args.net c.loop-whole.whole c.in-Some.next i.1 t.0)

pub returns-clause-numbers : goal.returns-clause-numbers
returns-clause-numbers c =
    let i = c.loop-whole.invariant in
    numbers_in c.args.net c.loop-whole.whole i.1 i.0 (subst (IsLayered c.loop-whole.whole) c.in_default.is c.in_ok-next.ensures)

pub returns-clause-few : goal.returns-clause-few
returns-clause-few c = omega (arith, splittable_few c.loop-whole.whole c.loop-whole.invariant.0)
