use Rattle.di_grammar.proofs.Leading.{same_way_of}
use Rattle.di_grammar.proofs.alternation.same_way.Goals as goal

pub returns : goal.returns
returns c = λ bs cs a b rise rises. rw c.lesser.ensures (same_way_of c.args.bursts c.args.others _ _ bs cs c.both-inputs.ensures c.both-outputs.ensures a b rise rises)
