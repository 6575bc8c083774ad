use Rattle.basic_kinds.proofs.MachineTraces.{by_trace, goes_on}
use Rattle.basic_kinds.proofs.machine.Machine.step.Goals as goal

pub returns-clause-answer : goal.returns-clause-answer
returns-clause-answer c = by_trace c.args.self.now c.args.port c.advance.result c.advance.ensures.answer

pub returns-clause-taken : goal.returns-clause-taken
returns-clause-taken c = λ t h r. goes_on c.args.self.now c.advance.new.self c.args.port c.advance.ensures.kept
    (λ a d k g. c.advance.ensures.taken a d k r g) t h
    ((by_trace c.args.self.now c.args.port c.advance.result c.advance.ensures.answer t h).0 r)
