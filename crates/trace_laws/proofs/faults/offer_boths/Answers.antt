use Rattle.std.proofs.Common.{ap, length, subst, arith, ◌≡◌}
use Rattle.trace_laws.specs.Listed.{output_by}
use Rattle.trace_laws.specs.Mirror.Faults.{BothAt, OfEach}
use Rattle.trace_laws.specs.Mirror.Improved.{Improved}
use Rattle.trace_laws.proofs.Offers.{each_more}
use Rattle.trace_laws.proofs.faults.offer_boths.Goals as goal

pub loop-other-preserved : goal.loop-other-preserved
loop-other-preserved c = each_more (BothAt (output_by c.args.dirs.now) c.args.words.now c.args.word.now) c.args.words.now c.as_slice-other-items.result.now
    c.loop-other.other-index c.other-item.result c.args.least c.loop-other.now c.in_ok-now.now c.as_slice-other-items.ensures c.loop-other-test.true
    c.other-item.is c.loop-other.invariant c.in_ok-now.ensures

pub returns : goal.returns
returns c =
    let q : c.loop-other.other-index ≡ length c.args.words.now =
    omega (arith, c.loop-other-test.false, c.loop-other.auto.other-index-end, ap length c.as_slice-other-items.ensures) in
    subst (λ j. Improved (OfEach (BothAt (output_by c.args.dirs.now) c.args.words.now c.args.word.now) c.args.words.now j) c.args.least c.loop-other.now) q c.loop-other.invariant
