use Rattle.trace_laws.specs.Listed.{output_by}
use Rattle.trace_laws.specs.Mirror.Faults.{SwapAt}
use Rattle.trace_laws.proofs.Linked.{same_row}
use Rattle.trace_laws.proofs.Offers.{offers_more}
use Rattle.trace_laws.proofs.places.offer_swaps.Goals as goal

pub loop-place-preserved : goal.loop-place-preserved
loop-place-preserved c = offers_more (SwapAt (output_by c.args.dirs.now) c.args.words.now c.args.word.now) c.loop-place.place
    c.args.least c.loop-place.least c.in_ok-least.least c.loop-place.invariant
    (c.in_ok-least.ensures c.args.words.now (same_row c.args.words.now c.args.word.now c.in_ok-row.row.items _ c.as_slice.ensures.value c.in_ok-row.ensures))
