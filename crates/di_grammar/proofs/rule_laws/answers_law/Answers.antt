use Rattle.di_grammar.proofs.Answering.{admitted_all, kept_all, broken_not_admitted, broken_one}
use Rattle.di_grammar.proofs.rule_laws.answers_law.Goals as goal

pub returns-clause-admitted : goal.returns-clause-admitted
returns-clause-admitted c = λ ps. (kept_all ps, admitted_all ps)

pub returns-clause-broken : goal.returns-clause-broken
returns-clause-broken c = broken_not_admitted

pub returns-clause-one : goal.returns-clause-one
returns-clause-one c = broken_one
