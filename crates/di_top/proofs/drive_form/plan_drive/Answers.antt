use Rattle.std.proofs.Common.{◌≡◌, Some, None, sym, subst}
use Rattle.std.proofs.lemmas.Result.{IfOk-weaker, IfErr-weaker}
use Rattle.di_top.specs.declared.outcome.Stop.{Stop}
use Rattle.di_top.specs.declared.outcome.Numbered.TheVariants.{Lines}
use Rattle.di_top.specs.Requests.{Drive}
use Rattle.di_top.specs.Calls.{reading}
use Rattle.di_top.specs.Ends.{Halts}
use Rattle.di_top.specs.Plans.{wording_of}
use Rattle.di_top.proofs.Compiling.{if_err}
use Rattle.di_top.proofs.Drives.{many_halt, unread_halts, text_halts, drive_halts, drive_finishes}
use Rattle.di_top.proofs.drive_form.plan_drive.Goals as goal

pub returns-in_err-steps-clause-stop : goal.returns-in_err-steps-clause-stop
returns-in_err-steps-clause-stop g c =
    let r = reading g.F.Shelf.content g.F.Shelf.faults c.args.shelf.now c.args.shelf.now in
    let halts = many_halt r c.args.netlist.now c.args.seed c.args.steps c.in_err-steps.field-0.0 c.in_err-steps.ensures.stop in
    let P : Stop → Type 0 = λ x. Halts (Some (Drive c.args.netlist.now c.args.seed c.args.steps)) r x.outcome (wording_of x) in
    let Q : Stop → Type 0 = λ x. x ≡ record { outcome = c.in_err-steps.field-0.0; numbered = Lines; net = None } in
    if_err c.from_residual.result Q P
    (λ x e. let s : record { outcome = c.in_err-steps.field-0.0; numbered = Lines; net = None } ≡ x = sym e in subst P s halts)
    c.from_residual.ensures.1

pub returns-in_err-bytes-clause-stop : goal.returns-in_err-bytes-clause-stop
returns-in_err-bytes-clause-stop g c =
    let r = reading g.F.Shelf.content g.F.Shelf.faults c.args.shelf.now c.load_file.new.shelf in
    let halts = unread_halts r c.args.netlist.now c.args.seed c.args.steps c.in_ok-steps.ensures.ok.1 c.in_err-bytes.field-0.0 c.in_err-bytes.ensures.stop in
    let P : Stop → Type 0 = λ x. Halts (Some (Drive c.args.netlist.now c.args.seed c.args.steps)) r x.outcome (wording_of x) in
    let Q : Stop → Type 0 = λ x. x ≡ record { outcome = c.in_err-bytes.field-0.0; numbered = Lines; net = None } in
    if_err c.from_residual-in_err-bytes.result Q P
    (λ x e. let s : record { outcome = c.in_err-bytes.field-0.0; numbered = Lines; net = None } ≡ x = sym e in subst P s halts)
    c.from_residual-in_err-bytes.ensures.1

pub returns-in_err-net-clause-stop : goal.returns-in_err-net-clause-stop
returns-in_err-net-clause-stop g c =
    let r = reading g.F.Shelf.content g.F.Shelf.faults c.args.shelf.now c.load_file.new.shelf in
    let halts = text_halts r c.args.netlist.now c.args.seed c.args.steps c.in_ok-steps.ensures.ok.1 c.in_ok-bytes.bytes.items c.in_ok-bytes.ensures.ok
    c.in_err-net.field-0.0 (rw c.deref.ensures.value at c.in_err-net.ensures.stop) in
    let P : Stop → Type 0 = λ x. Halts (Some (Drive c.args.netlist.now c.args.seed c.args.steps)) r x.outcome (wording_of x) in
    let Q : Stop → Type 0 = λ x. x ≡ record { outcome = c.in_err-net.field-0.0; numbered = Lines; net = None } in
    if_err c.from_residual-in_err-net.result Q P
    (λ x e. let s : record { outcome = c.in_err-net.field-0.0; numbered = Lines; net = None } ≡ x = sym e in subst P s halts)
    c.from_residual-in_err-net.ensures.1

pub returns-clause-ok : goal.returns-clause-ok
returns-clause-ok g c =
    let r = reading g.F.Shelf.content g.F.Shelf.faults c.args.shelf.now c.load_file.new.shelf in
    let text = rw c.deref.ensures.value at c.in_ok-net.ensures.ok in
    IfOk-weaker c.drive_net.result _ _
    (λ drawn h. drive_finishes r c.args.netlist.now c.args.seed c.args.steps c.in_ok-steps.ensures.ok.1 c.in_ok-bytes.bytes.items c.in_ok-bytes.ensures.ok
    c.in_ok-net.net text drawn h)
    (rw c.in_ok-steps.ensures.ok.0 at c.drive_net.ensures.ok)

pub returns-clause-stop : goal.returns-clause-stop
returns-clause-stop g c =
    let r = reading g.F.Shelf.content g.F.Shelf.faults c.args.shelf.now c.load_file.new.shelf in
    let text = rw c.deref.ensures.value at c.in_ok-net.ensures.ok in
    IfErr-weaker c.drive_net.result _ _
    (λ stop h. drive_halts r c.args.netlist.now c.args.seed c.args.steps c.in_ok-steps.ensures.ok.1 c.in_ok-bytes.bytes.items c.in_ok-bytes.ensures.ok
    c.in_ok-net.net text stop h)
    (rw c.in_ok-steps.ensures.ok.0 at c.drive_net.ensures.stop)
