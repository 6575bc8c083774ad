use Rattle.std.proofs.Common.{arith, refl}
use Rattle.cmd_machine.proofs.Steps.{opens, stays_open}
use Rattle.cmd_machine.proofs.position.Position.open.Goals as goal

pub returns-then-self-eq0 : goal.returns-then-self-eq0
returns-then-self-eq0 c = λ L e d a lawful at spot move. opens L c.args.self.now lawful e at a c.args.spot.now spot _
    c.if-self-eq0.true refl refl refl refl c.raise.ensures.length c.raise.ensures.set

pub returns-else-self-eq0 : goal.returns-else-self-eq0
returns-else-self-eq0 c = λ L e d a lawful at spot move. stays_open L c.args.self.now lawful e at a c.args.spot.now
    spot (omega (arith, c.if-self-eq0.false)) (d, move)
