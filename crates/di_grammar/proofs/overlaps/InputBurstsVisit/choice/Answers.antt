use Rattle.std.proofs.lemmas.List.{append-nil}
use Rattle.di_grammar.proofs.overlaps.InputBurstsVisit.choice.Goals as goal

pub returns : goal.returns
returns c = λ ps w number edges known. rw append-nil known
