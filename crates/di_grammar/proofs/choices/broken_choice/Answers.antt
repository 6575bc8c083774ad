use Rattle.di_grammar.proofs.Choosing.{broken_first}
use Rattle.di_grammar.proofs.choices.broken_choice.Goals as goal

pub returns : goal.returns
returns c = λ choice a b rise rises. rw c.lesser.ensures (broken_first choice c.args.edges.firsts c.args.edges.lasts _ _ c.both-begins.ensures c.apart-ends.ensures a b rise rises)
