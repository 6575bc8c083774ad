use Rattle.std.proofs.Common.{◌≡◌, sym, subst, Some}
use Rattle.di_top.specs.declared.outcome.Outcome.{Outcome}
use Rattle.di_top.specs.Requests.{Rules}
use Rattle.di_top.specs.Outcomes.{Gives}
use Rattle.di_top.specs.Plans.{IsStop}
use Rattle.di_top.specs.Calls.{reading}
use Rattle.di_top.specs.RulesForm.{verdict_text}
use Rattle.di_top.proofs.Compiling.{if_err}
use Rattle.di_top.proofs.ListAnswers.{unlisted, rules_done}
use Rattle.di_top.proofs.rules_form.plan_rules.Goals as goal

pub returns-in_err-verdict-clause-stop : goal.returns-in_err-verdict-clause-stop
returns-in_err-verdict-clause-stop g c =
    let r = reading g.F.Shelf.content g.F.Shelf.faults c.args.shelf.now c.load_file.new.shelf in
    let stops = unlisted r c.args.file.now c.in_ok-bytes.bytes.items c.in_err-verdict.field-0.0 c.in_ok-bytes.ensures.ok (rw c.deref.ensures.value at c.in_err-verdict.ensures.stop) in
    let P : Outcome → Type 0 = λ x. IsStop x × Gives (Some (Rules c.args.file.now)) r x in
    let Q : Outcome → Type 0 = λ x. x ≡ c.in_err-verdict.field-0.0 in
    if_err c.from_residual-in_err-verdict.result Q P (λ x e. let s : c.in_err-verdict.field-0.0 ≡ x = sym e in subst P s stops) c.from_residual-in_err-verdict.ensures.1

pub returns-clause-ok : goal.returns-clause-ok
returns-clause-ok g c =
    let r = reading g.F.Shelf.content g.F.Shelf.faults c.args.shelf.now c.load_file.new.shelf in
    let v = c.in_ok-verdict.verdict in
    rules_done r c.args.file.now c.in_ok-bytes.bytes.items (verdict_text v.names v.broken) c.in_ok-bytes.ensures.ok (rw c.deref.ensures.value at c.in_ok-verdict.ensures.ok)
