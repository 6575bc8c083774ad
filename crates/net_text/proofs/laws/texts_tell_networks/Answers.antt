use Rattle.net_text.proofs.ComponentLine.{lines_told}
use Rattle.net_text.proofs.Told.{networks_told, correct_told}
use Rattle.net_text.proofs.laws.texts_tell_networks.Goals as goal

pub returns-clause-networks : goal.returns-clause-networks
returns-clause-networks c = networks_told c.canonical_texts_are_read.ensures

pub returns-clause-components : goal.returns-clause-components
returns-clause-components c = lines_told

pub returns-clause-correct : goal.returns-clause-correct
returns-clause-correct c = correct_told
