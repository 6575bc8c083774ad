use Rattle.place_graph.proofs.NumberTraces.{trace_numbers}
use Rattle.place_graph.proofs.laws.number_traces.Goals as goal

pub returns : goal.returns
returns c = trace_numbers
