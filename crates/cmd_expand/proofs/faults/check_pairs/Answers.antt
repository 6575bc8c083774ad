use Rattle.cmd_expand.proofs.Tables.{checked_old, checked_whole}
use Rattle.cmd_expand.proofs.faults.check_pairs.Goals as goal

pub loop-pair-preserved : goal.loop-pair-preserved
loop-pair-preserved c = record {
  earlier = checked_old c.loop-pair.earlier c.put.new.self c.args.pairs.now c.loop-pair.pair-index 0 _ c.loop-pair-test.true c.loop-pair.invariant.earlier c.in_ok-put.ensures.here c.in_ok-put.ensures.others;
  whole = λ xs h t. checked_whole xs c.args.pairs.now c.loop-pair.pair-index _ c.loop-pair-test.true (c.loop-pair.invariant.whole xs h t)
      (c.in-Ok.ensures.ok xs _ c.args.pairs.now h c.loop-pair.invariant.earlier t);
}
