use Rattle.place_graph.proofs.Charted.{charted}
use Rattle.place_graph.proofs.Played.{played}
use Rattle.place_graph.proofs.laws.fair_is_charted.Goals as goal

pub returns-clause-chart : goal.returns-clause-chart
returns-clause-chart c = charted

pub returns-clause-plays : goal.returns-clause-plays
returns-clause-plays c = played
