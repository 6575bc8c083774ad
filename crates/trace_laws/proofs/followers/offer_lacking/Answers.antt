use Rattle.std.proofs.Common.{ap, length, subst, arith, ◌≡◌}
use Rattle.trace_laws.specs.Listed.{output_by}
use Rattle.trace_laws.specs.Mirror.Faults.{OfEach}
use Rattle.trace_laws.specs.Mirror.Followers.{LacksOf}
use Rattle.trace_laws.specs.Mirror.Improved.{Improved}
use Rattle.trace_laws.proofs.Offers.{each_more}
use Rattle.trace_laws.proofs.followers.offer_lacking.Goals as goal

pub loop-word-preserved : goal.loop-word-preserved
loop-word-preserved c = each_more (LacksOf (output_by c.args.dirs.now) c.args.side c.args.words.now) c.args.words.now c.as_slice-word-items.result.now
    c.loop-word.word-index c.word-item.result c.args.least c.loop-word.now c.in_ok-now.now c.as_slice-word-items.ensures c.loop-word-test.true
    c.word-item.is c.loop-word.invariant c.in_ok-now.ensures

pub returns : goal.returns
returns c =
    let q : c.loop-word.word-index ≡ length c.args.words.now =
    omega (arith, c.loop-word-test.false, c.loop-word.auto.word-index-end, ap length c.as_slice-word-items.ensures) in
    subst (λ j. Improved (OfEach (LacksOf (output_by c.args.dirs.now) c.args.side c.args.words.now) c.args.words.now j) c.args.least c.loop-word.now) q c.loop-word.invariant
