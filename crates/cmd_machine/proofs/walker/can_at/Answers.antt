use Rattle.std.proofs.Common.{◌≡◌, arith, sym, subst}
use Rattle.cmd_machine.specs.Mirror.Positions as position
use Rattle.cmd_machine.proofs.Weaving.{item_is, at_some}
use Rattle.cmd_machine.proofs.walker.can_at.Goals as goal

pub returns-then-user-positions : goal.returns-then-user-positions
returns-then-user-positions c = λ p t m e s.
    let r = c.index-positions-user.result in
    let same : r ≡ m = item_is c.args.positions.now c.args.user r m c.if-user-positions.true c.index-positions-user.is
    e in
    c.can.ensures p t (subst (λ x. position.Stands p x t) (sym same) s)

pub returns-else-user-positions : goal.returns-else-user-positions
returns-else-user-positions c = λ p t m e s.
    let within = at_some c.args.positions.now c.args.user m e in (
      λ r. absurd (omega (arith, within, c.if-user-positions.false)),
      λ w. absurd (omega (arith, within, c.if-user-positions.false)),
    )
