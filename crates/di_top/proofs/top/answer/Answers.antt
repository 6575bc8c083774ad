use Rattle.std.proofs.Common.{refl, ap}
use Rattle.replay.specs.Probes.{views_of}
use Rattle.di_top.specs.Asked.{meant}
use Rattle.di_top.specs.Plans.{text_of}
use Rattle.di_top.proofs.Endings.{ended_usage, ended_stop, ended_done, ended_cut}
use Rattle.di_top.proofs.top.answer.Goals as goal

pub returns-in_default-clause-promise : goal.returns-in_default-clause-promise
returns-in_default-clause-promise g c =
    ended_usage c.canonical_texts_are_read.ensures _ _ _ _ _ _ c.in_default.ensures (refl, refl)
    (ap (views_of g.P.Probe.rule g.P.Probe.numbers g.P.Probe.steady) c.new.ensures.items) c.end.ensures.spoke

pub returns-in-Err-clause-promise : goal.returns-in-Err-clause-promise
returns-in-Err-clause-promise g c =
    let kept = views_of g.P.Probe.rule g.P.Probe.numbers g.P.Probe.steady c.read_words.new.probes.items in
    ended_stop c.canonical_texts_are_read.ensures _ (meant kept c.in-Some.task) _ _ _ _ _ _ _ c.in-Some.ensures c.in-Err.ensures.stop (refl, refl)
    (ap (views_of g.P.Probe.rule g.P.Probe.numbers g.P.Probe.steady) c.new-in-Err.ensures.items)
    (rw c.names.ensures at c.end-in-Err.ensures.spoke)

pub returns-in-Ok-put_plan-clause-promise : goal.returns-in-Ok-put_plan-clause-promise
returns-in-Ok-put_plan-clause-promise g c =
    let kept = views_of g.P.Probe.rule g.P.Probe.numbers g.P.Probe.steady c.read_words.new.probes.items in
    let back = views_of g.P.Probe.rule g.P.Probe.numbers g.P.Probe.steady c.in-Ok.kept.items in
    ended_done c.canonical_texts_are_read.ensures _ (meant kept c.in-Some.task) _ _ _ back (text_of c.in-Ok.plan) c.in-Some.ensures c.in-Ok.ensures.ok
    c.in-Ok-put_plan.ensures.ok (refl, refl)

pub returns-clause-promise : goal.returns-clause-promise
returns-clause-promise g c =
    let kept = views_of g.P.Probe.rule g.P.Probe.numbers g.P.Probe.steady c.read_words.new.probes.items in
    let back = views_of g.P.Probe.rule g.P.Probe.numbers g.P.Probe.steady c.in-Ok.kept.items in
    ended_cut c.canonical_texts_are_read.ensures _ (meant kept c.in-Some.task) _ _ _ _ back (text_of c.in-Ok.plan) _ c.in-Some.ensures c.in-Ok.ensures.ok
    c.in-Err-put_plan.ensures.failed c.in-Err-put_plan.ensures.front
    (ap (views_of g.P.Probe.rule g.P.Probe.numbers g.P.Probe.steady) c.new-in-Err-put_plan.ensures.items) c.end-in-Err-put_plan.ensures.spoke
