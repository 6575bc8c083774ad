use Rattle.std.proofs.Common.{◌≡◌, true, false, refl, rules}
use Rattle.cmd_machine.proofs.Weaving.{passed, stopped, past_all}
use Rattle.cmd_machine.proofs.walker.all_can.Goals as goal

pub returns-then-not-can_at : goal.returns-then-not-can_at
returns-then-not-can_at c = λ ps t each are.
    let no_more : c.can_at.result ≡ false = search rules in
    stopped ps t c.args.symbol.0 c.args.users.now c.loop-user.user-index _ c.loop-user-test.true c.args.positions.now each
    are c.can_at.result (λ p u m e s. c.can_at.ensures p u m e s) no_more

pub loop-user-preserved : goal.loop-user-preserved
loop-user-preserved c = λ ps t each.
    let goes : c.can_at.result ≡ true = search rules in
    passed ps t c.args.symbol.0 c.args.users.now c.loop-user.user-index _ c.loop-user-test.true c.args.positions.now each
    c.can_at.result (λ p u m e s. c.can_at.ensures p u m e s) goes (c.loop-user.invariant ps t each)

pub returns : goal.returns
returns c = λ ps t each are. (
  λ r. c.loop-user.invariant ps t each
      (past_all ps t c.args.symbol.0 c.args.users.now c.loop-user.user-index c.loop-user-test.false),
  λ all. refl,
)
