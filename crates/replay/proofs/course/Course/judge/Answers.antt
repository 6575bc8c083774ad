use Rattle.std.proofs.Common.{◌≡◌, ◌∙◌, Some, sym, subst}
use Rattle.replay.specs.Answers.{Course, IsAnswer, state_of}
use Rattle.replay.specs.Mirror.Steps.{step_for}
use Rattle.replay.proofs.Judging.{Weighed, weighed_done, weighed_answer}
use Rattle.replay.proofs.Coursing.{kept_weighed}
use Rattle.replay.proofs.course.Course.judge.Goals as goal

pub returns-in-Done-clause-step : goal.returns-in-Done-clause-step
returns-in-Done-clause-step c =
    let inside = c.self.inside in
    let r : Course = record { net = inside.net; events = inside.events.items; room = inside.room } in
    let step : step_for inside.net c.args.event ≡ Some c.in-Some.step = sym c.in-Some.ensures in
    let weighed : Weighed c.args.self.now c.args.event c.in-Some.step c.can-can.result c.is_busy-busy.result =
    subst (λ (u : Course). Weighed u c.args.event c.in-Some.step c.can-can.result c.is_busy-busy.result) c.self.view_is
    (kept_weighed r inside.board inside.seen.items c.self.invariant.0 c.args.event c.in-Some.step c.can-can.result c.is_busy-busy.result step
    c.can-can.ensures c.is_busy-busy.ensures) in
    weighed_done c.args.self.now c.args.event c.in-Some.step c.can-can.result c.is_busy-busy.result weighed (sym c.answer.ensures ∙ c.in-Done.is)

pub returns-in_default-answer : goal.returns-in_default-answer
returns-in_default-answer c =
    let inside = c.self.inside in
    let r : Course = record { net = inside.net; events = inside.events.items; room = inside.room } in
    let step : step_for inside.net c.args.event ≡ Some c.in-Some.step = sym c.in-Some.ensures in
    let weighed : Weighed c.args.self.now c.args.event c.in-Some.step c.can-can.result c.is_busy-busy.result =
    subst (λ (u : Course). Weighed u c.args.event c.in-Some.step c.can-can.result c.is_busy-busy.result) c.self.view_is
    (kept_weighed r inside.board inside.seen.items c.self.invariant.0 c.args.event c.in-Some.step c.can-can.result c.is_busy-busy.result step
    c.can-can.ensures c.is_busy-busy.ensures) in
    record {
      step = tt;
      answer = subst (IsAnswer c.args.self.now.net (state_of c.args.self.now) c.args.event) (sym c.answer.ensures)
          (weighed_answer c.args.self.now c.args.event c.in-Some.step c.can-can.result c.is_busy-busy.result weighed);
      refused = c.in_default-answer.not-Done;
    }
