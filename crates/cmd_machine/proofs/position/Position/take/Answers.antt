use Rattle.std.proofs.Common.{arith, refl}
use Rattle.cmd_machine.proofs.Steps.{taken}
use Rattle.cmd_machine.proofs.position.Position.take.Goals as goal

pub returns-then-self-eq0 : goal.returns-then-self-eq0
returns-then-self-eq0 c = λ L e a lawful open_. taken L lawful c.args.self.now _ c.args.spot.now e a open_ refl
    c.clear.ensures.length c.clear.ensures.here c.clear.ensures.others refl
    (omega (arith, c.saturating_sub-self.ensures)) (λ z. refl)
    (λ some. absurd (omega (arith, c.if-self-eq0.true, some)))

pub returns-else-self-eq0 : goal.returns-else-self-eq0
returns-else-self-eq0 c = λ L e a lawful open_. taken L lawful c.args.self.now _ c.args.spot.now e a open_ refl
    c.clear.ensures.length c.clear.ensures.here c.clear.ensures.others refl
    (omega (arith, c.saturating_sub-self.ensures)) (λ z. absurd (omega (arith, c.if-self-eq0.false, z)))
    (λ some. refl)
