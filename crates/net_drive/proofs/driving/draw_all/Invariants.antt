use Rattle.std.proofs.Common.{◌≡◌, [], ◌+◌, ◌*◌, ◌≤◌}
use Rattle.replay.specs.Probes.{views_of}
use Rattle.net_drive.specs.Drawn.{generator_of, widest}
use Rattle.net_drive.specs.Mirror.Driving.{IsCurrent, IsOnWay}
use Rattle.net_drive.proofs.driving.draw_all.Given as goal

abbrev pub invariant-loop-taken : goal.invariant-loop-taken
invariant-loop-taken g l = record {
  way : IsOnWay l.fn.replay.course.net (generator_of l.seed) l.steps l.taken l.replay.course l.generator l.events.items;
  current : IsCurrent l.replay.course l.plan l.known.index l.known.tested.items (l.taken + 1);
  probes : views_of g.P.Probe.rule g.P.Probe.numbers g.P.Probe.steady l.replay.probes.items ≡ [];
  asked : l.replay.asked ≤ l.fn.replay.asked + l.taken * (1 + widest l.fn.replay.course.net);
}
