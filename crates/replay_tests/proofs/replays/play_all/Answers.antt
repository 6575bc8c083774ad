use Rattle.std.proofs.Common.{◌≡◌, ◌-◌, refl, ap, arith}
use Rattle.replay.specs.Answers.{Course}
use Rattle.replay_tests.proofs.replays.play_all.Goals as goal

pub loop-event-preserved : goal.loop-event-preserved
loop-event-preserved g c =
    let room : c.play.new.self.course.room ≡ c.loop-event.replay.course.room - 1 = ap (λ (r : Course). r.room) (c.in-Done.ensures.applied refl) in
    omega (arith, room, c.loop-event.invariant)
