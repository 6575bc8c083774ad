use Rattle.cmd_text.proofs.CanonicalRead.{canonical_read}
use Rattle.cmd_text.proofs.laws.canonical_texts_are_read.Goals as goal

pub returns : goal.returns
returns c = canonical_read
