use Rattle.std.proofs.Common.{arith}
use Rattle.cmd_tree.proofs.Depths.{depth_few}
use Rattle.cmd_tree.proofs.measure.depth.Goals as goal

pub proc_depth-requires : goal.proc_depth-requires
proc_depth-requires c =
    omega (
      arith,
      depth_few c.args.command.now.procs c.as_slice-process-items.result.now c.loop-process.process-index c.process-item.result
          c.as_slice-process-items.ensures c.args.command.now.valid.few_brackets c.loop-process-test.true c.process-item.is,
    )
