use Rattle.std.proofs.Common.{◌≡◌, sym, subst, Some}
use Rattle.di_top.specs.declared.outcome.Outcome.{Outcome}
use Rattle.di_top.specs.Requests.{Count}
use Rattle.di_top.specs.Outcomes.{Gives}
use Rattle.di_top.specs.Plans.{IsStop}
use Rattle.di_top.specs.Calls.{reading}
use Rattle.di_top.specs.CheckForm.{CheckUses}
use Rattle.di_top.proofs.Compiling.{count_done, file_stops, if_err}
use Rattle.di_top.proofs.count_form.plan_count.Goals as goal

pub returns-in_err-command-clause-stop : goal.returns-in_err-command-clause-stop
returns-in_err-command-clause-stop g c =
    let r = reading g.F.Shelf.content g.F.Shelf.faults c.args.shelf.now c.load_command.new.shelf in
    let stops = file_stops CheckUses r c.args.file.now c.in_err-command.field-0.0 c.in_err-command.ensures.stop in
    let P : Outcome → Type 0 = λ x. IsStop x × Gives (Some (Count c.args.basis c.args.file.now)) r x in
    let Q : Outcome → Type 0 = λ x. x ≡ c.in_err-command.field-0.0 in
    if_err c.from_residual.result Q P (λ x e. let s : c.in_err-command.field-0.0 ≡ x = sym e in subst P s stops) c.from_residual.ensures.1

pub total-total-requires : goal.total-total-requires
total-total-requires g c = c.in_ok-sorts.ensures.few

pub returns-clause-ok : goal.returns-clause-ok
returns-clause-ok g c =
    let r = reading g.F.Shelf.content g.F.Shelf.faults c.args.shelf.now c.load_command.new.shelf in
    count_done c.args.basis r c.args.file.now c.in_ok-command.command c.in_ok-sorts.sorts c.in_ok-command.ensures.ok c.in_ok-sorts.ensures c.total-total.result c.total-total.ensures
