use Rattle.std.proofs.Common.{None}
use Rattle.std.specs.List.{Contains}
use Rattle.trace_laws.specs.Listed.{output_by}
use Rattle.trace_laws.specs.Breaks.{MissingSwap}
use Rattle.trace_laws.specs.Mirror.Faults.{SwapsOf}
use Rattle.trace_laws.proofs.Offers.{each_more, each_all}
use Rattle.trace_laws.proofs.Shown.{swaps_show}
use Rattle.trace_laws.proofs.faults.least_swap.Goals as goal

pub loop-word-preserved : goal.loop-word-preserved
loop-word-preserved c = each_more (SwapsOf (output_by c.args.dirs.now) c.args.words.now) c.args.words.now c.as_slice-word-items.result.now c.loop-word.word-index c.word-item.result
    None c.loop-word.least c.in_ok-least.least c.as_slice-word-items.ensures c.loop-word-test.true c.word-item.is c.loop-word.invariant c.in_ok-least.ensures

pub returns : goal.returns
returns c = each_all (SwapsOf (output_by c.args.dirs.now) c.args.words.now) (MissingSwap (output_by c.args.dirs.now) (Contains c.args.words.now)) c.args.words.now c.as_slice-word-items.result.now c.loop-word.word-index
    c.loop-word.least c.as_slice-word-items.ensures c.loop-word-test.false c.loop-word.auto.word-index-end (λ t. swaps_show (output_by c.args.dirs.now) c.args.words.now t) c.loop-word.invariant
