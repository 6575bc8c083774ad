use Rattle.std.proofs.Common.{sym, true≢false}
use Rattle.place_graph.specs.Points.{Among}
use Rattle.cmd_machine.specs.Mirror.Positions.{Key, SpotOf, after}
use Rattle.cmd_machine.proofs.Steps.{none_found}
use Rattle.cmd_machine.proofs.position.Position.advance.Goals as goal

pub returns-in_default-clause-answer : goal.returns-in_default-clause-answer
returns-in_default-clause-answer c = λ L e lawful at. (
  λ t. absurd (true≢false (sym t)),
  λ d. absurd (none_found L c.args.self.now lawful e at c.args.symbol.0 (sym c.in_default.ensures.value) d),
)

pub returns-then-can-clause-answer : goal.returns-then-can-clause-answer
returns-then-can-clause-answer c = λ L e lawful at.
    let k : Key = (c.args.symbol.0, c.args.self.now.point) in
    c.awaits-can.ensures L e c.args.symbol.0 lawful at
    (at.found.sound k c.in-Some.spot.now (sym c.in-Some.ensures.value))

pub returns-then-can-clause-taken : goal.returns-then-can-clause-taken
returns-then-can-clause-taken c = λ L e lawful at r.
    let a = c.args.symbol.0 in
    let k : Key = (a, c.args.self.now.point) in
    let spot : SpotOf (λ l i. Among L l) k c.in-Some.spot.now = at.found.sound k c.in-Some.spot.now
    (sym c.in-Some.ensures.value) in
    let d = (c.awaits-can.ensures L e a lawful at spot).0 r in
    let o = c.open.ensures L e d.0 a lawful at spot d.1 in
    (after a o.0, o.2, c.take.ensures L o.0 a lawful o.1)

pub returns-else-can-clause-answer : goal.returns-else-can-clause-answer
returns-else-can-clause-answer c = λ L e lawful at.
    let k : Key = (c.args.symbol.0, c.args.self.now.point) in
    c.awaits-can.ensures L e c.args.symbol.0 lawful at
    (at.found.sound k c.in-Some.spot.now (sym c.in-Some.ensures.value))
