use Rattle.std.proofs.Common.{◌≡◌, ◌++◌, map, drop}
use Rattle.place_graph.specs.Sums.{processes}
use Rattle.count_sum.specs.Mirror.Parts.{counted_of}
use Rattle.count_sum.proofs.commands.processes.Given as goal

abbrev pub invariant-loop-process : goal.invariant-loop-process
invariant-loop-process l = map counted_of l.parts.items ++ processes (drop l.process-index l.procs) l.names ≡ processes l.procs l.names
