use Rattle.std.proofs.Common.{inr, ap}
use Rattle.replay.specs.Probes.{views_of}
use Rattle.di_top.proofs.plan.decide_drive.Goals as goal

pub returns-clause-ok : goal.returns-clause-ok
returns-clause-ok g c = record {
  gives = inr c.in_ok-drawn.ensures.ok.0;
  prints = c.in_ok-drawn.ensures.ok.1;
  hands = ap (views_of g.P.Probe.rule g.P.Probe.numbers g.P.Probe.steady) c.new.ensures.items;
}
