use Rattle.std.proofs.Common.{◌≡◌, ◌≤◌}
use Rattle.std.specs.List.{AllWithin}
use Rattle.replay.specs.Probes.{views_of}
use Rattle.replay.specs.Mirror.Watching.{stepped_front}
use Rattle.replay.proofs.watch.see_all.Given as goal

-- the probes so far have seen the event, and the others have room for it
abbrev pub invariant-loop-probe : goal.invariant-loop-probe
invariant-loop-probe g l = record {
  views : views_of g.P.Probe.rule g.P.Probe.numbers g.P.Probe.steady l.probes
      ≡ stepped_front l.probe-index l.seen (views_of g.P.Probe.rule g.P.Probe.numbers g.P.Probe.steady l.fn.probes);
  room : AllWithin (λ b. 1 ≤ g.P.Probe.room b) l.probes l.probe-index l.probe-index-end;
}
