use Rattle.trace_laws.proofs.WholeListing.{text_or_line, no_fault, one_list, one_line}
use Rattle.trace_laws.proofs.laws.list_or_faulty_line.Goals as goal

pub returns-clause-either : goal.returns-clause-either
returns-clause-either c = text_or_line

pub returns-clause-not_both : goal.returns-clause-not_both
returns-clause-not_both c = no_fault

pub returns-clause-one_list : goal.returns-clause-one_list
returns-clause-one_list c = one_list

pub returns-clause-one_line : goal.returns-clause-one_line
returns-clause-one_line c = one_line
