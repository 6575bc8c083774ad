use Rattle.di_top.proofs.FormAnswers.{one_answer, gives_admitted, prints_admitted}
use Rattle.di_top.proofs.Endings.{complete}
use Rattle.di_top.proofs.laws.forms_law.Goals as goal

pub returns-clause-one_answer : goal.returns-clause-one_answer
returns-clause-one_answer c = one_answer c.canonical_texts_are_read.ensures

pub returns-clause-only_admitted : goal.returns-clause-only_admitted
returns-clause-only_admitted c = gives_admitted

pub returns-clause-only_printed : goal.returns-clause-only_printed
returns-clause-only_printed c = prints_admitted

pub returns-clause-complete : goal.returns-clause-complete
returns-clause-complete c = complete
