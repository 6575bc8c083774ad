use Rattle.basic_kinds.proofs.machine_wait.WaitMachine.step.Goals as goal

pub returns-then-can-clause-taken : goal.returns-then-can-clause-taken
returns-then-can-clause-taken c = λ a d h r g. c.take.ensures.taken a d h ((c.can-can.ensures a h).0 r) g
