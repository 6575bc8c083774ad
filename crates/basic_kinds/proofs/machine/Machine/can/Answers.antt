use Rattle.basic_kinds.proofs.MachineTraces.{by_trace}
use Rattle.basic_kinds.proofs.machine.Machine.can.Goals as goal

pub returns : goal.returns
returns c = by_trace c.args.self.now c.args.port c.may.result c.may.ensures
