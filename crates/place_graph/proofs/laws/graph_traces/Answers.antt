use Rattle.place_graph.proofs.Walking.{trace_walks, trace_moves}
use Rattle.place_graph.proofs.laws.graph_traces.Goals as goal

pub returns-clause-walks : goal.returns-clause-walks
returns-clause-walks c = trace_walks

pub returns-clause-moves : goal.returns-clause-moves
returns-clause-moves c = trace_moves
