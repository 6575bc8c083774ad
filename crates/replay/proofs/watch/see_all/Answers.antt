use Rattle.std.proofs.Common.{◌≤◌, ◌∙◌, arith, add-one, length}
use Rattle.std.proofs.lemmas.List.{length-map}
use Rattle.std.proofs.lemmas.List.Elements.{AllWithin-from_all}
use Rattle.replay.specs.Probes.{view_of, views_of}
use Rattle.replay.proofs.Views.{views_next, rest_set, front_none, front_all}
use Rattle.replay.proofs.watch.see_all.Goals as goal

pub loop-probe-init : goal.loop-probe-init
loop-probe-init g c = record {
  views = front_none c.args.seen (views_of g.P.Probe.rule g.P.Probe.numbers g.P.Probe.steady c.args.probes.now);
  room = AllWithin-from_all (λ b. 1 ≤ g.P.Probe.room b) c.args.probes.now c.requires;
}

pub loop-probe-preserved : goal.loop-probe-preserved
loop-probe-preserved g c = record {
  views = rw add-one (views_next g.P.Probe.rule g.P.Probe.numbers g.P.Probe.steady c.args.seen c.args.probes.now c.loop-probe.probes c.loop-probe.probe-index
      c.see_one.new.probe _ (omega arith) c.loop-probe.invariant.views c.see_one.ensures);
  room = rest_set (λ b. 1 ≤ g.P.Probe.room b) c.loop-probe.probes c.loop-probe.probe-index (length c.args.probes.now) c.see_one.new.probe c.loop-probe.invariant.room;
}

pub returns : goal.returns
returns g c = c.loop-probe.invariant.views
    ∙ front_all c.loop-probe.probe-index c.args.seen (views_of g.P.Probe.rule g.P.Probe.numbers g.P.Probe.steady c.args.probes.now)
    (omega (arith, length-map c.args.probes.now (view_of g.P.Probe.rule g.P.Probe.numbers g.P.Probe.steady)))
