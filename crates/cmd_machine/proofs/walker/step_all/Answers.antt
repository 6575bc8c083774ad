use Rattle.std.proofs.Common.{sym, subst}
use Rattle.cmd_machine.specs.Mirror.Walkers.{StandBut}
use Rattle.cmd_machine.proofs.Weaving.{but_begins, but_ends, stepped, past_but}
use Rattle.cmd_machine.proofs.walker.step_all.Goals as goal

pub loop-user-init : goal.loop-user-init
loop-user-init c = λ ps t each are all. subst (StandBut ps c.args.positions.now t c.args.symbol.0) (sym are)
    (but_begins ps t c.args.symbol.0 c.args.positions.now each)

pub loop-user-preserved : goal.loop-user-preserved
loop-user-preserved c = λ ps t each are all. stepped ps t c.args.symbol.0 c.args.users.now c.loop-user.user-index _
    c.loop-user-test.true c.loop-user.positions c.step_at.new.positions are all c.step_at.ensures.length
    c.step_at.ensures.others (λ p u m n e s w f. c.step_at.ensures.here p u m n e s w f)
    (c.loop-user.invariant ps t each are all)

pub returns : goal.returns
returns c = λ ps t each are all. but_ends ps t c.args.symbol.0 c.loop-user.positions
    (past_but ps t c.args.symbol.0 c.args.users.now c.loop-user.user-index c.loop-user.positions c.loop-user-test.false
    (c.loop-user.invariant ps t each are all))
