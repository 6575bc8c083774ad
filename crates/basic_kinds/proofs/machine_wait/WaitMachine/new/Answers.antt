use Rattle.basic_kinds.proofs.DwKind.{begins}
use Rattle.basic_kinds.proofs.machine_wait.WaitMachine.new.Goals as goal

pub returns-clause-stands : goal.returns-clause-stands
returns-clause-stands c = begins c.in_ok-shape.shape
