use Rattle.std.proofs.Common.{◌≡◌, ◌≤◌, ◌∷◌, ◌++◌, [], sym, ap, subst, arith}
use Rattle.replay.specs.Answers.{Course}
use Rattle.replay.specs.Mirror.Steps.{Judged}
use Rattle.replay.proofs.Coursing.{kept_next, pushed}
use Rattle.replay.proofs.course.Course.apply.Goals as goal

pub invariant_of-self : goal.invariant_of-self
invariant_of-self c =
    let inside = c.self.inside in
    let r : Course = record { net = inside.net; events = inside.events.items; room = inside.room } in
    let judged : Judged r c.args.event c.args.step.now =
    subst (λ (u : Course). Judged u c.args.event c.args.step.now) (sym c.self.view_is) c.requires.judged in
    let room : 1 ≤ inside.room = omega (arith, c.requires.room, ap (λ (u : Course). u.room) c.self.view_is) in
    let more : c.push-noted.new.self.items ≡ inside.events.items ++ c.args.event ∷ [] =
    pushed inside.events.items c.push-noted.new.self.items c.args.event _
    (c.push-noted.ensures.succeeds (omega (arith, room, c.self.invariant.1))) c.push-noted.ensures.items in (
      kept_next r inside.board inside.seen.items c.self.invariant.0 c.args.event c.args.step.now c.take.new.self c.note.new.seen.items
          c.push-noted.new.self.items judged c.take.ensures.board c.note.ensures.symbols more,
      omega (arith, room, c.self.invariant.1, c.push-noted.ensures.upper_bound, c.push-noted.ensures.capacity),
      omega (arith, room, c.self.invariant.2, c.note.ensures.len, c.note.ensures.capacity),
    )
