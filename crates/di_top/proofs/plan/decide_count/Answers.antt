use Rattle.std.proofs.Common.{◌≡◌, [], Some, None, sym, subst, ap}
use Rattle.replay.specs.Probes.{views_of}
use Rattle.di_top.specs.declared.outcome.Stop.{Stop}
use Rattle.di_top.specs.declared.outcome.Numbered.TheVariants.{Lines}
use Rattle.di_top.specs.Requests.{Count}
use Rattle.di_top.specs.Calls.{reading}
use Rattle.di_top.specs.Ends.{Halts}
use Rattle.di_top.specs.Say.{by_line}
use Rattle.di_top.specs.Plans.{wording_of}
use Rattle.di_top.proofs.Compiling.{if_err}
use Rattle.di_top.proofs.plan.decide_count.Goals as goal

pub returns-in_err-plan-clause-stop : goal.returns-in_err-plan-clause-stop
returns-in_err-plan-clause-stop g c =
    let r = reading g.F.Shelf.content g.F.Shelf.faults c.args.shelf.now c.plan_count.new.shelf in
    let halts : Halts (Some (Count c.args.basis c.args.file.now)) r c.in_err-plan.field-0.0 (by_line []) =
    record { stops = c.in_err-plan.ensures.stop.0; gives = c.in_err-plan.ensures.stop.1; named = tt } in
    let P : Stop → Type 0 = λ x. Halts (Some (Count c.args.basis c.args.file.now)) r x.outcome (wording_of x) in
    let Q : Stop → Type 0 = λ x. x ≡ record { outcome = c.in_err-plan.field-0.0; numbered = Lines; net = None } in
    if_err c.from_residual.result Q P (λ x e. let s : record { outcome = c.in_err-plan.field-0.0; numbered = Lines; net = None } ≡ x = sym e in subst P s halts)
    c.from_residual.ensures.1

pub returns-clause-ok : goal.returns-clause-ok
returns-clause-ok g c = record {
  gives = c.in_ok-plan.ensures.ok.0;
  prints = c.in_ok-plan.ensures.ok.1;
  hands = ap (views_of g.P.Probe.rule g.P.Probe.numbers g.P.Probe.steady) c.new.ensures.items;
}
