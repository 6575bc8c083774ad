use Rattle.std.proofs.Common.{◌≡◌, ◌≤◌}
use Rattle.std.specs.List.{AllWithin}
use Rattle.replay.specs.Probes.{views_of}
use Rattle.replay.proofs.watch.ready_all.Given as goal

-- nothing is seen, and the probes so far are ready
abbrev pub invariant-loop-probe : goal.invariant-loop-probe
invariant-loop-probe g l = record {
  views : views_of g.P.Probe.rule g.P.Probe.numbers g.P.Probe.steady l.probes ≡ views_of g.P.Probe.rule g.P.Probe.numbers g.P.Probe.steady l.fn.probes;
  room : AllWithin (λ b. 1 ≤ g.P.Probe.room b) l.probes 0 l.probe-index;
}
