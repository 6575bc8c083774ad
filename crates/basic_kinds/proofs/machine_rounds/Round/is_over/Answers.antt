use Rattle.std.proofs.Common.{eqb-true, eq-eqb}
use Rattle.basic_kinds.proofs.RoundSteps.{round_over, over_round}
use Rattle.basic_kinds.proofs.machine_rounds.Round.is_over.Goals as goal

pub returns : goal.returns
returns c = λ s round h.
    let m = c.args.self.now in (
      λ r. round_over m.came.items m.turn m.left s round h (eqb-true m.left 0 r),
      λ k. eq-eqb m.left 0 (over_round m.came.items m.turn m.left s round h k),
    )
