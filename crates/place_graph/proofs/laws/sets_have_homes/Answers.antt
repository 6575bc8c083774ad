use Rattle.place_graph.specs.Points.{legs}
use Rattle.place_graph.proofs.Listed.{homes_known}
use Rattle.place_graph.proofs.laws.sets_have_homes.Goals as goal

pub returns : goal.returns
returns c = λ p. homes_known (legs p)
