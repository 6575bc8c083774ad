use Rattle.std.proofs.Common.{◌+◌, suc, length, arith, subst, refl, sym}
use Rattle.cmd_tree.proofs.Phases.{Grew}
use Rattle.basic_kinds.proofs.RoundSteps.{fork_input, fork_output, outputs_grow, round_same, chain}
use Rattle.basic_kinds.proofs.machine_rounds.ForkMachine.step.Goals as goal

pub returns-then-port-eq0-clause-answer : goal.returns-then-port-eq0-clause-answer
returns-then-port-eq0-clause-answer c = λ a h. chain (c.begin.ensures.answer (λ i. a (1 + i)) (a 0) h)
    (fork_input (length c.args.self.now.outputs.came.items) a c.args.port c.if-port-eq0.true)

pub returns-then-port-eq0-clause-taken : goal.returns-then-port-eq0-clause-taken
returns-then-port-eq0-clause-taken c = λ a d h r g.
    let m = c.begin.new.self in
    let k = subst (λ x. Grew a x d) c.if-port-eq0.true g in
    round_same m.came.items m.turn m.left (λ i. a (1 + i)) (λ i. d (1 + i)) (suc (a 0)) (d 0)
    (c.begin.ensures.taken (λ i. a (1 + i)) (a 0) h r) (λ i l. k.elsewhere (1 + i) (λ e. omega arith)) k.here

pub returns-else-port-eq0-clause-answer : goal.returns-else-port-eq0-clause-answer
returns-else-port-eq0-clause-answer c = λ a h. chain (c.take.ensures.answer (λ i. a (1 + i)) (a 0) h)
    (fork_output (length c.args.self.now.outputs.came.items) a c.args.port c.if-port-eq0.false)

pub returns-else-port-eq0-clause-taken : goal.returns-else-port-eq0-clause-taken
returns-else-port-eq0-clause-taken c = λ a d h r g.
    let m = c.take.new.self in
    round_same m.came.items m.turn m.left (λ i. d (1 + i)) (λ i. d (1 + i)) (a 0) (d 0)
    (c.take.ensures.taken (λ i. a (1 + i)) (λ i. d (1 + i)) (a 0) h r
    (outputs_grow a d c.args.port c.if-port-eq0.false g)) (λ i l. refl)
    (g.elsewhere 0 (λ e. c.if-port-eq0.false (sym e)))
