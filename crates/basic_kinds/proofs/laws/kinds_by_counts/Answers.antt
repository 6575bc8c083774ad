use Rattle.basic_kinds.proofs.EachKind.{kind_counts, kind_empty, kind_push}
use Rattle.basic_kinds.proofs.laws.kinds_by_counts.Goals as goal

pub returns-clause-counts : goal.returns-clause-counts
returns-clause-counts c = kind_counts

pub returns-clause-empty : goal.returns-clause-empty
returns-clause-empty c = kind_empty

pub returns-clause-push : goal.returns-clause-push
returns-clause-push c = kind_push
