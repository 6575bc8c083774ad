use Rattle.place_graph.specs.Points.{legs}
use Rattle.cmd_machine.proofs.Standing.{answers}
use Rattle.cmd_machine.proofs.position.Position.can.Goals as goal

pub returns : goal.returns
returns c = λ p t s. answers p c.args.self.now t s c.args.symbol.0 c.may.result
    (c.may.ensures (legs p) s.state s.lawful s.is_at)
