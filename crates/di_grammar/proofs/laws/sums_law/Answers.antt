use Rattle.di_grammar.proofs.SumGrants.{grants_are}
use Rattle.di_grammar.proofs.laws.sums_law.Goals as goal

pub returns : goal.returns
returns c = grants_are
