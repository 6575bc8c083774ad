use Rattle.basic_kinds.proofs.WaitSteps.{row_taken, col_taken, out_taken}
use Rattle.basic_kinds.proofs.machine_wait.WaitMachine.take.Goals as goal

pub returns-then-port-rows-clause-taken : goal.returns-then-port-rows-clause-taken
returns-then-port-rows-clause-taken c = λ a d h m g.
    let s = c.args.self.now in
    row_taken s.shape s.row s.col a c.args.port h.0 h.1 d m g c.if-port-rows.true

pub returns-then-port-rows-2-clause-taken : goal.returns-then-port-rows-2-clause-taken
returns-then-port-rows-2-clause-taken c = λ a d h m g.
    let s = c.args.self.now in
    col_taken s.shape s.row s.col a c.args.port h.0 h.1 d m g c.if-port-rows.false c.if-port-rows-2.true

pub returns-else-port-rows-2-clause-taken : goal.returns-else-port-rows-2-clause-taken
returns-else-port-rows-2-clause-taken c = λ a d h m g.
    let s = c.args.self.now in
    out_taken s.shape s.row s.col a c.args.port h.0 h.1 d m g c.if-port-rows.false c.if-port-rows-2.false
