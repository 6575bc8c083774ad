use Rattle.std.proofs.Common.{◌≤◌, ◌∙◌, arith, subst, sym}
use Rattle.std.proofs.lemmas.Bool.{false≢true}
use Rattle.std.proofs.lemmas.List.Elements.{AllWithin-more_set}
use Rattle.replay.proofs.Views.{views_same, steady_at}
use Rattle.replay.specs.Probes.{AllSteady}
use Rattle.replay.proofs.watch.ready_all.Goals as goal

pub returns-in_err-ready_one-clause-views : goal.returns-in_err-ready_one-clause-views
returns-in_err-ready_one-clause-views g c =
    views_same g.P.Probe.rule g.P.Probe.numbers g.P.Probe.steady c.loop-probe.probes c.loop-probe.probe-index c.ready_one.new.probe _ c.ready_one.ensures.view
    ∙ c.loop-probe.invariant.views

pub returns-in_err-ready_one-clause-always : goal.returns-in_err-ready_one-clause-always
returns-in_err-ready_one-clause-always g c = λ all.
    let now : AllSteady _ = subst AllSteady (sym c.loop-probe.invariant.views) all in
    absurd (false≢true (c.in_err-ready_one.ensures.always
    (steady_at g.P.Probe.rule g.P.Probe.numbers g.P.Probe.steady c.loop-probe.probes c.loop-probe.probe-index _ (omega arith) now)))

pub loop-probe-preserved : goal.loop-probe-preserved
loop-probe-preserved g c = record {
  views = views_same g.P.Probe.rule g.P.Probe.numbers g.P.Probe.steady c.loop-probe.probes c.loop-probe.probe-index c.ready_one.new.probe _ c.ready_one.ensures.view
      ∙ c.loop-probe.invariant.views;
  room = AllWithin-more_set c.loop-probe.probes c.loop-probe.probe-index c.ready_one.new.probe (omega arith) (λ b. 1 ≤ g.P.Probe.room b)
      c.loop-probe.invariant.room c.in_ok-ready_one.ensures.room;
}
