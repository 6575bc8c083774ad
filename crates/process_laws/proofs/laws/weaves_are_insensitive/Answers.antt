use Rattle.process_laws.proofs.Weaves.{weave_insensitive}
use Rattle.process_laws.proofs.laws.weaves_are_insensitive.Goals as goal

pub returns : goal.returns
returns c = weave_insensitive
