use Rattle.net_text.proofs.FaultLaw.{not_both, one_net, one_fault}
use Rattle.net_text.proofs.laws.netlist_or_fault.Goals as goal

pub returns-clause-not_both : goal.returns-clause-not_both
returns-clause-not_both c = not_both c.canonical_texts_are_read.ensures

pub returns-clause-one_net : goal.returns-clause-one_net
returns-clause-one_net c = one_net c.canonical_texts_are_read.ensures

pub returns-clause-one_fault : goal.returns-clause-one_fault
returns-clause-one_fault c = one_fault c.canonical_texts_are_read.ensures
