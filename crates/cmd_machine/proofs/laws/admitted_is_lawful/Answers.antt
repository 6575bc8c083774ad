use Rattle.cmd_machine.proofs.Lawfulness.{lawful_legs}
use Rattle.cmd_machine.proofs.laws.admitted_is_lawful.Goals as goal

pub returns : goal.returns
returns c = λ ps shaped admitted. lawful_legs ps shaped admitted
