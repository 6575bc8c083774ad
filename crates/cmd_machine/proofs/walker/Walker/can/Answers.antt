use Rattle.std.proofs.Common.{◌≡◌, ◌≢◌, true, sym, subst, [], rules}
use Rattle.cmd_machine.specs.Mirror.Walkers.{StandEach}
use Rattle.cmd_machine.proofs.Weaving.{can_all}
use Rattle.cmd_machine.proofs.Rows.{users_are, some_row, none_row}
use Rattle.cmd_machine.proofs.walker.Walker.can.Goals as goal

pub returns-then-not-is_empty : goal.returns-then-not-is_empty
returns-then-not-is_empty c = λ ps t s.
    let w = c.args.self.now in
    let are = users_are ps t w s c.args.symbol.0 c.as_slice.result.now c.row_of-users.result.now c.as_slice.ensures.value
    c.row_of-users.ensures in
    let some : c.row_of-users.result.now ≢ [] = some_row c.row_of-users.result.now c.is_empty.result c.is_empty.ensures
    (search rules) in
    can_all ps t c.args.symbol.0 c.row_of-users.result.now are c.as_slice-then-not-is_empty.result.now
    (subst (λ ms. StandEach ps ms t) (sym c.as_slice-then-not-is_empty.ensures.value) s.each) s.known some c.all_can.result
    (c.all_can.ensures ps t (subst (λ ms. StandEach ps ms t) (sym c.as_slice-then-not-is_empty.ensures.value) s.each) are)

pub returns-else-not-is_empty : goal.returns-else-not-is_empty
returns-else-not-is_empty c = λ ps t s.
    let w = c.args.self.now in
    let are = users_are ps t w s c.args.symbol.0 c.as_slice.result.now c.row_of-users.result.now c.as_slice.ensures.value
    c.row_of-users.ensures in
    let empty : c.is_empty.result ≡ true = search rules in
    none_row ps t c.args.symbol.0 c.row_of-users.result.now c.is_empty.result are c.is_empty.ensures empty
