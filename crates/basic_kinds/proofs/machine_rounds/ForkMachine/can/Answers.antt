use Rattle.std.proofs.Common.{◌+◌, length}
use Rattle.basic_kinds.proofs.RoundSteps.{fork_input, fork_output, chain}
use Rattle.basic_kinds.proofs.machine_rounds.ForkMachine.can.Goals as goal

pub returns-then-port-eq0 : goal.returns-then-port-eq0
returns-then-port-eq0 c = λ a h. chain (c.is_over.ensures (λ i. a (1 + i)) (a 0) h)
    (fork_input (length c.args.self.now.outputs.came.items) a c.args.port c.if-port-eq0.true)

pub returns-else-port-eq0 : goal.returns-else-port-eq0
returns-else-port-eq0 c = λ a h. chain (c.awaits.ensures.answer (λ i. a (1 + i)) (a 0) h)
    (fork_output (length c.args.self.now.outputs.came.items) a c.args.port c.if-port-eq0.false)
