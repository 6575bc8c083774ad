use Rattle.std.proofs.Common.{suc, not, sym, subst, length, ◌≡◌, rules}
use Rattle.basic_kinds.specs.Mirror.Machines.{RoundOf}
use Rattle.basic_kinds.proofs.RoundSteps.{round_begins, over_round}
use Rattle.basic_kinds.proofs.machine_rounds.Round.begin.Goals as goal

pub returns-then-over-clause-taken : goal.returns-then-over-clause-taken
returns-then-over-clause-taken c = λ s round h r.
    let m = c.args.self.now in
    let now = over_round m.came.items m.turn m.left s round h ((c.is_over-over.ensures s round h).0 r) in
    let e : c.len-self.result ≡ length m.came.items = search rules in
    subst (λ n. RoundOf m.came.items (not m.turn) n s (suc round)) (sym e)
    (round_begins m.came.items m.turn m.left s round h now)
