use Rattle.place_graph.specs.Points.{legs}
use Rattle.cmd_machine.proofs.Standing.{answers, grows}
use Rattle.cmd_machine.proofs.position.Position.step.Goals as goal

pub returns-clause-answer : goal.returns-clause-answer
returns-clause-answer c = λ p t s. answers p c.args.self.now t s c.args.symbol.0 c.advance.result
    (c.advance.ensures.answer (legs p) s.state s.lawful s.is_at)

pub returns-clause-taken : goal.returns-clause-taken
returns-clause-taken c = λ p t s r. grows p c.args.self.now c.advance.new.self t s c.args.symbol.0
    (c.advance.ensures.taken (legs p) s.state s.lawful s.is_at r)
