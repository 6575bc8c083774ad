use Rattle.cmd_tree.proofs.Prefixes.{Trace-nil, Trace-prefix}
use Rattle.cmd_tree.proofs.laws.traces_are_closed.Goals as goal

pub returns-clause-empty : goal.returns-clause-empty
returns-clause-empty c = Trace-nil

pub returns-clause-prefixes : goal.returns-clause-prefixes
returns-clause-prefixes c = Trace-prefix
