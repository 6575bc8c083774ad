use Rattle.std.proofs.Common.{suc, arith}
use Rattle.net_drive.proofs.SumTrees.{two_more}
use Rattle.net_drive.proofs.index.leaves_for.Goals as goal

pub loop-leaves-preserved : goal.loop-leaves-preserved
loop-leaves-preserved c =
    let l = c.loop-leaves in
    let i = l.invariant in
    ((suc i.0.0, two_more i.0.0 l.leaves i.0.1), omega (arith, i.1), omega (arith, c.requires, c.loop-leaves-test.true))
