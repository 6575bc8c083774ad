use Rattle.di_top.proofs.Endings.{headline}
use Rattle.di_top.proofs.laws.compile_law.Goals as goal

pub returns : goal.returns
returns c = headline
