use Rattle.std.proofs.Common.{◌≡◌, ◌+◌, ◌≤◌, length}
use Rattle.replay.specs.Probes.{views_of}
use Rattle.di_top.specs.Mirror.Replayed.{IsUnderWay}
use Rattle.di_top.proofs.run_form.play_all.Given as goal

-- the events before this one are applied, and the probes have seen them
abbrev pub invariant-loop-index : goal.invariant-loop-index
invariant-loop-index g l = record {
  net : l.replay.course.net ≡ l.initial.replay.course.net;
  room : length l.events ≤ l.replay.course.room + l.index;
  under_way : IsUnderWay l.initial.replay.course.net l.events l.index l.replay.course.events
      (views_of g.P.Probe.rule g.P.Probe.numbers g.P.Probe.steady l.initial.replay.probes.items)
      (views_of g.P.Probe.rule g.P.Probe.numbers g.P.Probe.steady l.replay.probes.items);
}
