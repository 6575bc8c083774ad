use Rattle.place_graph.proofs.StyleSteps.{at_one_wait, in_rounds_are}
use Rattle.place_graph.proofs.laws.styles_law.Goals as goal

pub returns-clause-one_wait : goal.returns-clause-one_wait
returns-clause-one_wait c = at_one_wait

pub returns-clause-rounds : goal.returns-clause-rounds
returns-clause-rounds c = in_rounds_are
