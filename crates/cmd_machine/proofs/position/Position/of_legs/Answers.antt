use Rattle.std.proofs.Common.{arith, take}
use Rattle.std.specs.BTreeMap.{get}
use Rattle.cmd_machine.specs.Mirror.Positions.{key_cmp}
use Rattle.cmd_machine.proofs.Entering.{legs_entered, most_more, most_of}
use Rattle.cmd_machine.proofs.position.Position.of_legs.Goals as goal

pub loop-leg-preserved : goal.loop-leg-preserved
loop-leg-preserved c =
    let l = c.leg-item.result in
    let i = c.loop-leg.leg-index in
    record {
      found = legs_entered c.args.legs.now i l l (get key_cmp c.enter.new.spots) c.loop-leg-test.true c.leg-item.is
          (c.in_ok-enter.ensures (take i c.args.legs.now) c.loop-leg.invariant.found);
      most = most_more c.args.legs.now i l l c.loop-leg.most c.max-most.result c.loop-leg-test.true c.leg-item.is
          c.loop-leg.invariant.most (omega (arith, c.max-most.ensures, (most_of c.loop-leg.most c.len.result).0))
          (omega (arith, c.max-most.ensures, c.len.ensures, (most_of c.loop-leg.most c.len.result).1));
    }
