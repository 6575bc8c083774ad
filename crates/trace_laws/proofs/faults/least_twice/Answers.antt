use Rattle.std.proofs.Common.{None}
use Rattle.std.specs.List.{Contains}
use Rattle.trace_laws.specs.Breaks.{TwiceInARow}
use Rattle.trace_laws.specs.Mirror.Faults.{TwiceOf}
use Rattle.trace_laws.proofs.Offers.{each_more, each_all}
use Rattle.trace_laws.proofs.Shown.{twice_show}
use Rattle.trace_laws.proofs.faults.least_twice.Goals as goal

pub loop-word-preserved : goal.loop-word-preserved
loop-word-preserved c = each_more TwiceOf c.args.words.now c.as_slice-word-items.result.now c.loop-word.word-index c.word-item.result
    None c.loop-word.least c.in_ok-least.least c.as_slice-word-items.ensures c.loop-word-test.true c.word-item.is c.loop-word.invariant c.in_ok-least.ensures

pub returns : goal.returns
returns c = each_all TwiceOf (TwiceInARow (Contains c.args.words.now)) c.args.words.now c.as_slice-word-items.result.now c.loop-word.word-index
    c.loop-word.least c.as_slice-word-items.ensures c.loop-word-test.false c.loop-word.auto.word-index-end (λ t. twice_show c.args.words.now t) c.loop-word.invariant
