use Rattle.di_grammar.proofs.FairnessLaws.{weave_rules}
use Rattle.di_grammar.proofs.laws.weave_law.Goals as goal

pub returns : goal.returns
returns c = weave_rules
