use Rattle.std.proofs.Common.{◌≡◌, drop}
use Rattle.replay.specs.Probes.{views_of}
use Rattle.di_top.specs.Requests.{first_of}
use Rattle.di_top.proofs.keep.place_of.Given as goal

-- the first with the rule is among those that are left
abbrev pub invariant-loop-index : goal.invariant-loop-index
invariant-loop-index g l =
    first_of l.rule (drop l.index (views_of g.P.Probe.rule g.P.Probe.numbers g.P.Probe.steady l.probes))
    ≡ first_of l.rule (views_of g.P.Probe.rule g.P.Probe.numbers g.P.Probe.steady l.probes)
