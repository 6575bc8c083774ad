use Rattle.std.proofs.Common.{◌≡◌, None, rules}
use Rattle.basic_kinds.proofs.RoundSteps.{chain}
use Rattle.basic_kinds.proofs.WaitSteps.{row_may, col_may, out_may}
use Rattle.basic_kinds.proofs.machine_wait.WaitMachine.can.Goals as goal

pub returns-then-is_none : goal.returns-then-is_none
returns-then-is_none c = λ a h.
    let s = c.args.self.now in
    let none : s.row ≡ None = search rules in
    row_may s.shape s.row s.col a c.args.port h.0 h.1 c.if-port-rows.true none c.row_meets.result
    c.row_meets.ensures.none c.row_meets.ensures.some

pub returns-then-is_none-2 : goal.returns-then-is_none-2
returns-then-is_none-2 c = λ a h.
    let s = c.args.self.now in
    let none : s.col ≡ None = search rules in
    col_may s.shape s.row s.col a c.args.port h.0 h.1 c.if-port-rows.false c.if-port-rows-2.true none
    c.col_meets.result c.col_meets.ensures.none c.col_meets.ensures.some

pub returns-else-port-rows-2 : goal.returns-else-port-rows-2
returns-else-port-rows-2 c = λ a h.
    let s = c.args.self.now in
    chain c.both_wait.ensures
    (out_may s.shape s.row s.col a c.args.port h.0 h.1 c.if-port-rows.false c.if-port-rows-2.false)
