use Rattle.process_laws.proofs.Shapes.{process_steady}
use Rattle.process_laws.proofs.laws.fair_is_steady.Goals as goal

pub returns : goal.returns
returns c = process_steady
