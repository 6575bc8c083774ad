use Rattle.std.proofs.Common.{arith}
use Rattle.std.proofs.Math.ListN.{length-set}
use Rattle.std.proofs.Common.{◌∙◌, get_or}
use Rattle.net_core.proofs.Places.{few_below, placed_more, placed_all}
use Rattle.net_core.proofs.renumber.places.Goals as goal

pub overflow_cast-place : goal.overflow_cast-place
overflow_cast-place c = omega (arith, few_below c.args.bound c.args.numbers.now c.requires.known c.requires.once)

pub loop-place-preserved : goal.loop-place-preserved
loop-place-preserved c = record {
  sized = length-set c.loop-place.table.items (get_or c.args.numbers.now c.loop-place.place 0) c.loop-place.place ∙ c.loop-place.invariant.sized;
  placed = placed_more c.args.numbers.now c.loop-place.table.items c.loop-place.place c.args.bound c.requires.once c.requires.known c.loop-place-test.true
      c.loop-place.invariant.sized c.loop-place.invariant.placed;
}

pub returns-clause-places : goal.returns-clause-places
returns-clause-places c = λ n h. placed_all c.args.numbers.now c.loop-place.table.items c.loop-place.place n c.requires.once c.loop-place-test.false
    c.loop-place.invariant.placed (c.requires.whole n h)
