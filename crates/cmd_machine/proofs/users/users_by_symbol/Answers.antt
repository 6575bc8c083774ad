use Rattle.std.proofs.Common.{◌∙◌, refl, ap}
use Rattle.std.proofs.lemmas.List.{take_all}
use Rattle.cmd_machine.specs.Mirror.Walkers.{users_from}
use Rattle.cmd_machine.proofs.Noting.{rows_of, users_next}
use Rattle.cmd_machine.proofs.users.users_by_symbol.Goals as goal

pub loop-number-init : goal.loop-number-init
loop-number-init c = λ a. ap (λ xs. rows_of xs a) c.new-users.ensures.items

pub loop-number-preserved : goal.loop-number-preserved
loop-number-preserved c = λ a.
    users_next c.args.procs.now c.loop-number.number c.loop-number.number a c.index-procs-number.result c.loop-number.users.items
    c.note.new.users.items c.as_slice.result.now c.loop-number-test.true c.index-procs-number.is refl
    (c.as_slice.ensures.value ∙ c.in_ok-symbols.ensures) c.loop-number.invariant c.in_ok-note.ensures

pub returns : goal.returns
returns c = λ a.
    c.loop-number.invariant a ∙ ap (λ xs. users_from 0 xs a) (take_all c.loop-number.number c.args.procs.now c.loop-number-test.false)
