use Rattle.basic_kinds.proofs.MergeSteps.{merge_taken}
use Rattle.basic_kinds.proofs.machine_turns.MergeMachine.step.Goals as goal

pub returns-then-can-clause-taken : goal.returns-then-can-clause-taken
returns-then-can-clause-taken c = λ a d s h g. merge_taken c.args.self.now.width c.args.self.now.full a d c.args.port s
    ((c.can-can.ensures a s).0 h) g
