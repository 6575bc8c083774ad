use Rattle.std.proofs.Common.{rules, ◌≡◌, ◌≤◌, ◌-◌, ◌∙◌, length, set, sym, subst, false}
use Rattle.basic_kinds.specs.Mirror.Machines.{SeqOf}
use Rattle.basic_kinds.proofs.SeqSteps.{seq_grants}
use Rattle.basic_kinds.proofs.machine_seq.SeqMachine.take.Goals as goal

pub returns-else-place-requests-2-clause-taken : goal.returns-else-place-requests-2-clause-taken
returns-else-place-requests-2-clause-taken c = λ a d h m g.
    let s = c.args.self.now in
    let n : c.len-requests.result ≡ length s.asked.items = search rules in
    let low : length s.asked.items ≤ c.args.place = search rules in
    subst (λ x. SeqOf (set s.asked.items (c.args.place - x - 1) false) false d) (sym n)
    (seq_grants s.asked.items s.token a d c.args.place h m low
    (λ e. c.if-place-requests-2.false (e ∙ sym n)) g)
