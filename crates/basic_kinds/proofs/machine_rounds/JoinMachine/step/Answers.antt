use Rattle.std.proofs.Common.{◌∙◌, suc, sym, ap, subst, refl, length, arith}
use Rattle.cmd_tree.proofs.Phases.{Grew}
use Rattle.basic_kinds.proofs.RoundSteps.{join_input, join_output, round_same, chain}
use Rattle.basic_kinds.proofs.machine_rounds.JoinMachine.step.Goals as goal

pub returns-then-place-width-clause-answer : goal.returns-then-place-width-clause-answer
returns-then-place-width-clause-answer c = λ a h.
    let m = c.args.self.now.inputs in
    chain (c.begin.ensures.answer a (suc (a (length m.came.items))) h)
    (join_output m.came.items m.turn m.left a c.args.port h (c.if-place-width.true ∙ c.width.ensures))

pub returns-then-place-width-clause-taken : goal.returns-then-place-width-clause-taken
returns-then-place-width-clause-taken c = λ a d h r g.
    let n = length c.args.self.now.inputs.came.items in
    let m = c.begin.new.self in
    let k = subst (λ x. Grew a x d) (c.if-place-width.true ∙ c.width.ensures) g in
    round_same m.came.items m.turn m.left a d (suc (suc (a n))) (suc (d (length m.came.items)))
    (c.begin.ensures.taken a (suc (a n)) h r)
    (λ i l. k.elsewhere i (λ e. omega (arith, l, e, c.begin.ensures.kept)))
    (ap suc (ap d c.begin.ensures.kept ∙ k.here))

pub returns-else-place-width-clause-answer : goal.returns-else-place-width-clause-answer
returns-else-place-width-clause-answer c = λ a h.
    let m = c.args.self.now.inputs in
    chain (c.take.ensures.answer a (suc (a (length m.came.items))) h)
    (join_input m.came.items m.turn m.left a c.args.port h (λ e. c.if-place-width.false (e ∙ sym c.width.ensures)))

pub returns-else-place-width-clause-taken : goal.returns-else-place-width-clause-taken
returns-else-place-width-clause-taken c = λ a d h r g.
    let n = length c.args.self.now.inputs.came.items in
    let m = c.take.new.self in
    round_same m.came.items m.turn m.left d d (suc (a n)) (suc (d (length m.came.items)))
    (c.take.ensures.taken a d (suc (a n)) h r g) (λ i l. refl)
    (ap suc (ap d c.take.ensures.kept ∙ g.elsewhere n (λ e. c.if-place-width.false (sym e ∙ sym c.width.ensures))))
