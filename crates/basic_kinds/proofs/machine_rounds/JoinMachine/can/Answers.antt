use Rattle.std.proofs.Common.{◌∙◌, suc, sym, length}
use Rattle.basic_kinds.proofs.RoundSteps.{join_input, join_output, chain}
use Rattle.basic_kinds.proofs.machine_rounds.JoinMachine.can.Goals as goal

pub returns-then-place-width : goal.returns-then-place-width
returns-then-place-width c = λ a h.
    let m = c.args.self.now.inputs in
    chain (c.is_over.ensures a (suc (a (length m.came.items))) h)
    (join_output m.came.items m.turn m.left a c.args.port h (c.if-place-width.true ∙ c.width.ensures))

pub returns-else-place-width : goal.returns-else-place-width
returns-else-place-width c = λ a h.
    let m = c.args.self.now.inputs in
    chain (c.awaits.ensures.answer a (suc (a (length m.came.items))) h)
    (join_input m.came.items m.turn m.left a c.args.port h (λ e. c.if-place-width.false (e ∙ sym c.width.ensures)))
