use Rattle.std.proofs.Common.{ap, arith}
use Rattle.place_graph.specs.Mirror.Numbers.{PointNumbers}
use Rattle.place_graph.proofs.BurstSets.{among_at}
use Rattle.place_graph.proofs.draw.exits.Goals as goal

pub number-requires : goal.number-requires
number-requires c =
    let l = c.leg-item.result in
    omega (
      arith,
      ap (λ (n : PointNumbers). n.bound) c.requires.waits,
      (c.requires.legs.within l
          (among_at c.args.legs.now c.loop-leg.leg-index l c.loop-leg-test.true c.leg-item.is)).1,
    )
