use Rattle.std.proofs.Common.{◌++◌, ◌∷◌, [], sym, subst}
use Rattle.cmd_machine.specs.Mirror.Walkers.{StandEach}
use Rattle.cmd_machine.proofs.Weaving.{all_go_on}
use Rattle.cmd_machine.proofs.Rows.{users_are, written}
use Rattle.cmd_machine.proofs.walker.Walker.step.Goals as goal

pub returns-then-can-clause-taken : goal.returns-then-can-clause-taken
returns-then-can-clause-taken c = λ ps t s r.
    let a = c.args.symbol.0 in
    let ms = c.args.self.now.positions in
    let w = (c.can-can.ensures ps t s).0 r in
    let are = users_are ps t c.args.self.now s a c.as_slice.result.now c.row_of-users.result.now c.as_slice.ensures.value
    c.row_of-users.ensures in
    record {
      known = w.known;
      each = written ps (t ++ a ∷ []) c.step_all.new.positions ms.items ms.len ms.ok.0 s.each.long
          (c.step_all.ensures ps t (subst (λ xs. StandEach ps xs t) (sym c.as_mut_slice.ensures.value) s.each) are
          (all_go_on ps t a c.row_of-users.result.now are w));
      users = s.users;
    }
