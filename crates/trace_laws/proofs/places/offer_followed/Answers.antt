use Rattle.std.proofs.Common.{◌≡◌, length, ap, subst, arith}
use Rattle.trace_laws.specs.Listed.{output_by}
use Rattle.trace_laws.specs.Mirror.Faults.{CarryAt}
use Rattle.trace_laws.specs.Mirror.Improved.{Improved, Below}
use Rattle.trace_laws.proofs.Offers.{offers_more}
use Rattle.trace_laws.proofs.places.offer_followed.Goals as goal

pub loop-place-preserved : goal.loop-place-preserved
loop-place-preserved c = λ W r s. offers_more (CarryAt (output_by c.args.dirs.now) W c.args.front.now c.args.last) c.loop-place.place
    c.args.least c.loop-place.least c.in_ok-least.least (c.loop-place.invariant W r s) (c.in_ok-least.ensures W r s)

pub returns : goal.returns
returns c = λ W r s.
    let q : c.loop-place.place ≡ length c.args.front.now =
    omega (arith, c.loop-place-test.false, c.loop-place.auto.place-end, ap length c.symbols-place-end.ensures) in
    subst (λ n. Improved (Below (CarryAt (output_by c.args.dirs.now) W c.args.front.now c.args.last) n) c.args.least c.loop-place.least) q (c.loop-place.invariant W r s)
