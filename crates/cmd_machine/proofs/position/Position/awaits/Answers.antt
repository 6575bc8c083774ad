use Rattle.std.proofs.Common.{◌<◌, arith, sym, ◌∙◌, eqb-true, eq-eqb}
use Rattle.cmd_machine.proofs.Steps.{at_rest, under_way_can, under_way_must}
use Rattle.cmd_machine.proofs.position.Position.awaits.Goals as goal

pub returns-then-self-eq0 : goal.returns-then-self-eq0
returns-then-self-eq0 c = λ L e a lawful at spot.
    let m = c.args.self.now in (
      λ t. at_rest L m lawful e at a c.args.spot.now spot (eqb-true m.left 0 t),
      λ d. eq-eqb m.left 0 c.if-self-eq0.true,
    )

pub returns-then-spot-self : goal.returns-then-spot-self
returns-then-spot-self c = λ L e a lawful at spot.
    let m = c.args.self.now in
    let some : 0 < m.left = omega (arith, c.if-self-eq0.false) in (
      λ t. under_way_can L m lawful e at a c.args.spot.now spot some c.if-spot-self.true (sym c.is_left.ensures ∙ t),
      λ d. c.is_left.ensures ∙ (under_way_must L m lawful e at a c.args.spot.now spot some d).1,
    )

pub returns-else-spot-self : goal.returns-else-spot-self
returns-else-spot-self c = λ L e a lawful at spot.
    let m = c.args.self.now in
    let s = c.args.spot.now in
    let some : 0 < m.left = omega (arith, c.if-self-eq0.false) in (
      λ t. absurd (omega (arith, c.if-spot-self.false, eqb-true s.place m.under_way t)),
      λ d. eq-eqb s.place m.under_way (under_way_must L m lawful e at a s spot some d).0,
    )
