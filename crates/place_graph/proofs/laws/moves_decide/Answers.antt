use Rattle.place_graph.proofs.Determined.{reached, one_state, can_move}
use Rattle.place_graph.proofs.laws.moves_decide.Goals as goal

pub returns-clause-reached : goal.returns-clause-reached
returns-clause-reached c = reached

pub returns-clause-one : goal.returns-clause-one
returns-clause-one c = one_state

pub returns-clause-can : goal.returns-clause-can
returns-clause-can c = can_move
