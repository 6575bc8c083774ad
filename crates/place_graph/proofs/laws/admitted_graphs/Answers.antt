use Rattle.place_graph.proofs.Admission.{charts, plays, traces, rounds, aparts, drawables}
use Rattle.place_graph.proofs.laws.admitted_graphs.Goals as goal

pub returns-clause-chart : goal.returns-clause-chart
returns-clause-chart c = λ ps shaped admitted. charts ps admitted shaped

pub returns-clause-plays : goal.returns-clause-plays
returns-clause-plays c = λ ps shaped admitted. plays ps admitted shaped

pub returns-clause-traces : goal.returns-clause-traces
returns-clause-traces c = λ ps shaped bodied admitted. traces ps admitted shaped bodied

pub returns-clause-rounds : goal.returns-clause-rounds
returns-clause-rounds c = λ ps shaped bodied admitted. rounds ps admitted shaped bodied

pub returns-clause-apart : goal.returns-clause-apart
returns-clause-apart c = λ ps admitted shaped. aparts ps admitted shaped

pub returns-clause-drawable : goal.returns-clause-drawable
returns-clause-drawable c = λ names ps command admitted. drawables ps admitted names command
