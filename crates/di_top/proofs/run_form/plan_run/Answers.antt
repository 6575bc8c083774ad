use Rattle.std.proofs.Common.{◌≡◌, Some, None, sym, subst, ap, arith, length}
use Rattle.std.proofs.lemmas.Result.{IfOk-weaker, IfErr-weaker}
use Rattle.replay.specs.Probes.{views_of}
use Rattle.di_top.specs.declared.outcome.Stop.{Stop}
use Rattle.di_top.specs.declared.outcome.Numbered.TheVariants.{Lines}
use Rattle.di_top.specs.Requests.{Run}
use Rattle.di_top.specs.Calls.{reading}
use Rattle.di_top.specs.Ends.{Halts}
use Rattle.di_top.specs.Plans.{ran_text, wording_of}
use Rattle.di_top.specs.RunForm.{names_of}
use Rattle.di_top.proofs.Compiling.{if_err}
use Rattle.di_top.proofs.Replays.{few_events, texts_halt, replay_halts, replay_finishes}
use Rattle.di_top.proofs.run_form.plan_run.Goals as goal

pub returns-in_err-net-clause-stop : goal.returns-in_err-net-clause-stop
returns-in_err-net-clause-stop g c =
    let r = reading g.F.Shelf.content g.F.Shelf.faults c.args.shelf.now c.load_files.new.shelf in
    let kept = views_of g.P.Probe.rule g.P.Probe.numbers g.P.Probe.steady c.args.probes.items in
    let halts = texts_halt r c.args.netlist.now c.args.schedule.now kept c.in_ok-bytes.bytes.items c.in_ok-bytes.more.items c.in_ok-bytes.ensures.ok
    c.in_err-net.field-0.0 (rw (c.deref.ensures.value, c.deref-2.ensures.value) at c.in_err-net.ensures.stop) in
    let P : Stop → Type 0 = λ x. Halts (Some (Run c.args.netlist.now c.args.schedule.now kept)) r x.outcome (wording_of x) in
    let Q : Stop → Type 0 = λ x. x ≡ record { outcome = c.in_err-net.field-0.0; numbered = Lines; net = None } in
    if_err c.from_residual-in_err-net.result Q P (λ x e. let s : record { outcome = c.in_err-net.field-0.0; numbered = Lines; net = None } ≡ x = sym e in subst P s halts)
    c.from_residual-in_err-net.ensures.1

pub replay_events-requires-clause-few : goal.replay_events-requires-clause-few
replay_events-requires-clause-few g c =
    let texts = rw (c.deref.ensures.value, c.deref-2.ensures.value) at c.in_ok-net.ensures.ok in
    omega (
      arith,
      ap length c.deref-3.ensures.value,
      few_events (names_of c.in_ok-net.net) c.in_ok-net.events.items c.in_ok-bytes.more.items texts.schedule,
      texts.few_more,
    )

pub returns-clause-ok : goal.returns-clause-ok
returns-clause-ok g c =
    let r = reading g.F.Shelf.content g.F.Shelf.faults c.args.shelf.now c.load_files.new.shelf in
    let kept = views_of g.P.Probe.rule g.P.Probe.numbers g.P.Probe.steady c.args.probes.items in
    let texts = rw (c.deref.ensures.value, c.deref-2.ensures.value) at c.in_ok-net.ensures.ok in
    IfOk-weaker c.replay_events.result _ _
    (λ done h. replay_finishes r c.args.netlist.now c.args.schedule.now kept c.in_ok-bytes.bytes.items c.in_ok-bytes.more.items c.in_ok-bytes.ensures.ok
    c.in_ok-net.net c.in_ok-net.events.items texts (ran_text done.0) (views_of g.P.Probe.rule g.P.Probe.numbers g.P.Probe.steady done.1.items) h)
    (rw c.deref-3.ensures.value at c.replay_events.ensures.ok)

pub returns-clause-stop : goal.returns-clause-stop
returns-clause-stop g c =
    let r = reading g.F.Shelf.content g.F.Shelf.faults c.args.shelf.now c.load_files.new.shelf in
    let kept = views_of g.P.Probe.rule g.P.Probe.numbers g.P.Probe.steady c.args.probes.items in
    let texts = rw (c.deref.ensures.value, c.deref-2.ensures.value) at c.in_ok-net.ensures.ok in
    IfErr-weaker c.replay_events.result _ _
    (λ stop h. replay_halts r c.args.netlist.now c.args.schedule.now kept c.in_ok-bytes.bytes.items c.in_ok-bytes.more.items c.in_ok-bytes.ensures.ok
    c.in_ok-net.net c.in_ok-net.events.items texts stop h)
    (rw c.deref-3.ensures.value at c.replay_events.ensures.stop)
