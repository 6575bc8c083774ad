use Rattle.std.proofs.Common.{◌≢◌, refl, ap, ◌∙◌, arith}
use Rattle.replay.specs.declared.event.Answer.TheVariants as answer
use Rattle.replay.specs.Answers.{Course}
use Rattle.di_top.proofs.Replays.{one_applied}
use Rattle.di_top.proofs.run_form.play_all.Goals as goal

pub loop-index-preserved : goal.loop-index-preserved
loop-index-preserved g c =
    let applied = c.in-Done.ensures.applied refl in
    let done : answer.Done ≢ answer.NoMemory = λ e. cc in
    record {
      net = ap (λ (u : Course). u.net) applied ∙ c.loop-index.invariant.net;
      room = omega (arith, ap (λ (u : Course). u.room) applied, c.loop-index.invariant.room);
      under_way = one_applied _ _ _ _ _ _ _ _ _ c.loop-index.invariant.net c.loop-index.invariant.under_way (omega arith)
          (c.in-Done.ensures.answer done) applied (c.in-Done.ensures.seen refl);
    }
