use Rattle.std.proofs.Common.{◌≡◌, ◌↔◌, Some, IsTrue, sym, subst, ◌∙◌}
use Rattle.std.proofs.lemmas.Bool.{false≢true}
use Rattle.replay.specs.Answers.{Course, IsEnabled, state_of}
use Rattle.replay.specs.Mirror.Steps.{step_for}
use Rattle.replay.proofs.Judging.{enabled_fire, enabled_pass}
use Rattle.replay.proofs.course.Course.may.Goals as goal

pub returns-then-step : goal.returns-then-step
returns-then-step c =
    let inside = c.self.inside in
    let kept = c.self.invariant.0 in
    let r : Course = record { net = inside.net; events = inside.events.items; room = inside.room } in
    let step : step_for inside.net c.args.event ≡ Some c.in-Some.step = sym c.in-Some.ensures in
    subst (λ (u : Course). IsTrue c.can.result ↔ IsEnabled u.net (state_of u) c.args.event) c.self.view_is
    (enabled_fire inside.net (state_of r) c.args.event c.in-Some.step kept.network kept.closed step c.can.result
    (c.can.ensures inside.net (state_of r) kept.stands) c.if-step.true)

pub returns-else-step : goal.returns-else-step
returns-else-step c =
    let inside = c.self.inside in
    let kept = c.self.invariant.0 in
    let r : Course = record { net = inside.net; events = inside.events.items; room = inside.room } in
    let step : step_for inside.net c.args.event ≡ Some c.in-Some.step = sym c.in-Some.ensures in
    subst (λ (u : Course). IsTrue c.is_busy.result ↔ IsEnabled u.net (state_of u) c.args.event) c.self.view_is
    (enabled_pass inside.net (state_of r) c.args.event c.in-Some.step kept.network kept.closed step c.is_busy.result
    (c.is_busy.ensures inside.net (state_of r) kept.stands) (λ fills. false≢true (sym c.if-step.false ∙ fills)))
