use Rattle.std.proofs.Common.{arith}
use Rattle.place_graph.proofs.BurstSets.{among_at}
use Rattle.place_graph.proofs.draw.number_waits.Goals as goal

pub add-requires-clause-inside : goal.add-requires-clause-inside
add-requires-clause-inside c =
    let l = c.leg-item.result in
    omega (
      arith,
      c.loop-leg.invariant.bound,
      (c.requires.within l
          (among_at c.args.legs.now c.loop-leg.leg-index l c.loop-leg-test.true c.leg-item.is)).0,
    )
