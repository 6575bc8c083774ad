use Rattle.std.proofs.Common.{◌≡◌, ◌≢◌, get_or, sym, ap, ◌∙◌, arith}
use Rattle.di_top.proofs.Keeping.{first_next, first_here}
use Rattle.di_top.proofs.keep.place_of.Goals as goal

pub returns-then-rule-clause-first : goal.returns-then-rule-clause-first
returns-then-rule-clause-first g c =
    let x = c.index-probes-index.result in
    let is : g.P.Probe.rule (get_or c.args.probes.now c.loop-index.index x) ≡ c.args.rule =
    sym (ap g.P.Probe.rule c.index-probes-index.is) ∙ sym c.rule.ensures.is ∙ c.if-rule.true in
    sym c.loop-index.invariant
    ∙ first_here g.P.Probe.rule g.P.Probe.numbers g.P.Probe.steady c.args.rule c.args.probes.now c.loop-index.index x (omega arith) is

pub loop-index-preserved : goal.loop-index-preserved
loop-index-preserved g c =
    let x = c.index-probes-index.result in
    let other : g.P.Probe.rule (get_or c.args.probes.now c.loop-index.index x) ≢ c.args.rule =
    λ e. c.if-rule.false (c.rule.ensures.is ∙ ap g.P.Probe.rule c.index-probes-index.is ∙ e) in
    first_next g.P.Probe.rule g.P.Probe.numbers g.P.Probe.steady c.args.rule c.args.probes.now c.loop-index.index x (omega arith) other
    ∙ c.loop-index.invariant
