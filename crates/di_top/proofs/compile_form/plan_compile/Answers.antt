use Rattle.std.proofs.Common.{◌≡◌, sym, subst, Some}
use Rattle.di_top.specs.declared.outcome.Outcome.{Outcome}
use Rattle.di_top.specs.Requests.{Compile}
use Rattle.di_top.specs.Outcomes.{Gives}
use Rattle.di_top.specs.Plans.{IsStop}
use Rattle.di_top.specs.Calls.{reading}
use Rattle.di_top.specs.CompileForm.{CompileUses}
use Rattle.di_top.proofs.Compiling.{compile_done, not_built, file_stops, if_err}
use Rattle.di_top.proofs.compile_form.plan_compile.Goals as goal

pub network-requires : goal.network-requires
network-requires g c = c.in_ok-command.ensures.ok.admitted.admitted

pub returns-in_err-command-clause-stop : goal.returns-in_err-command-clause-stop
returns-in_err-command-clause-stop g c =
    let r = reading g.F.Shelf.content g.F.Shelf.faults c.args.shelf.now c.load_command.new.shelf in
    let stops = file_stops (CompileUses c.args.basis) r c.args.file.now c.in_err-command.field-0.0 c.in_err-command.ensures.stop in
    let P : Outcome → Type 0 = λ x. IsStop x × Gives (Some (Compile c.args.basis c.args.file.now)) r x in
    let Q : Outcome → Type 0 = λ x. x ≡ c.in_err-command.field-0.0 in
    if_err c.from_residual.result Q P (λ x e. let s : c.in_err-command.field-0.0 ≡ x = sym e in subst P s stops) c.from_residual.ensures.1

pub returns-in_err-net-clause-stop : goal.returns-in_err-net-clause-stop
returns-in_err-net-clause-stop g c =
    let r = reading g.F.Shelf.content g.F.Shelf.faults c.args.shelf.now c.load_command.new.shelf in
    let stops = not_built c.args.basis r c.args.file.now c.in_ok-command.command c.in_ok-command.ensures.ok c.in_err-net.field-0.0 c.in_err-net.ensures.stop in
    let P : Outcome → Type 0 = λ x. IsStop x × Gives (Some (Compile c.args.basis c.args.file.now)) r x in
    let Q : Outcome → Type 0 = λ x. x ≡ c.in_err-net.field-0.0 in
    if_err c.from_residual-in_err-net.result Q P (λ x e. let s : c.in_err-net.field-0.0 ≡ x = sym e in subst P s stops) c.from_residual-in_err-net.ensures.1

pub returns-clause-ok : goal.returns-clause-ok
returns-clause-ok g c =
    let r = reading g.F.Shelf.content g.F.Shelf.faults c.args.shelf.now c.load_command.new.shelf in
    compile_done c.args.basis r c.args.file.now c.in_ok-command.command c.in_ok-net.net c.in_ok-command.ensures.ok c.in_ok-net.ensures.ok
