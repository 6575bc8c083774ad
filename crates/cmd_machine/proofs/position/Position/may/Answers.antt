use Rattle.std.proofs.Common.{sym, true≢false}
use Rattle.cmd_machine.specs.Mirror.Positions.{Key}
use Rattle.cmd_machine.proofs.Steps.{none_found}
use Rattle.cmd_machine.proofs.position.Position.may.Goals as goal

pub returns-in-None : goal.returns-in-None
returns-in-None c = λ L e lawful at. (
  λ t. absurd (true≢false (sym t)),
  λ d. absurd (none_found L c.args.self.now lawful e at c.args.symbol.0 (sym c.in-None.ensures.value) d),
)

pub returns-in-Some : goal.returns-in-Some
returns-in-Some c = λ L e lawful at.
    let k : Key = (c.args.symbol.0, c.args.self.now.point) in
    c.awaits.ensures L e c.args.symbol.0 lawful at (at.found.sound k c.in-Some.spot.now (sym c.in-Some.ensures.value))
