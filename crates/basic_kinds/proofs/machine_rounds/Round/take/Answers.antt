use Rattle.std.proofs.Common.{set, sym, subst}
use Rattle.basic_kinds.specs.Mirror.Machines.{RoundOf}
use Rattle.basic_kinds.proofs.RoundSteps.{round_takes, awaits_round}
use Rattle.basic_kinds.proofs.machine_rounds.Round.take.Goals as goal

pub returns-then-can-clause-taken : goal.returns-then-can-clause-taken
returns-then-can-clause-taken c = λ s z round h r g.
    let m = c.args.self.now in
    let k = (c.awaits-can.ensures.answer s round h).0 r in
    subst (λ n. RoundOf (set m.came.items c.args.place m.turn) m.turn n z round) (sym c.saturating_sub-self.ensures)
    (round_takes m.came.items m.turn m.left s round h z c.args.place k.0
    (awaits_round m.came.items m.turn m.left s round h c.args.place k.0 k.1) g)
