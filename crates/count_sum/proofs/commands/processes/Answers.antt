use Rattle.std.proofs.Common.{arith}
use Rattle.count_sum.proofs.PartCounts.{processes_more}
use Rattle.count_sum.proofs.commands.processes.Goals as goal

pub loop-process-preserved : goal.loop-process-preserved
loop-process-preserved c =
    processes_more c.args.procs.now c.args.names c.loop-process.process-index c.process-item.result c.loop-process.parts.items c.in_ok-process_parts.field-0.items c.append.new.self.items
    (omega arith) c.process-item.is c.loop-process.invariant c.in_ok-append.ensures.items c.in_ok-process_parts.ensures
