use Rattle.arbiters.proofs.Limits.{keeps_limits, many_processes, many_places}
use Rattle.arbiters.proofs.SymbolNames.{many_names}
use Rattle.arbiters.proofs.Grammar.{is_admitted}
use Rattle.arbiters.proofs.laws.arbiter_law.Goals as goal

pub returns-clause-command : goal.returns-clause-command
returns-clause-command c = keeps_limits

pub returns-clause-admitted : goal.returns-clause-admitted
returns-clause-admitted c = is_admitted

pub returns-clause-processes : goal.returns-clause-processes
returns-clause-processes c = many_processes

pub returns-clause-symbols : goal.returns-clause-symbols
returns-clause-symbols c = many_names

pub returns-clause-places : goal.returns-clause-places
returns-clause-places c = many_places
