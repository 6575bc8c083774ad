use Rattle.std.proofs.Common.{◌≡◌, ◌+◌, drop}
use Rattle.cmd_tree.specs.Limits.{places_of_all}
use Rattle.cmd_tree.proofs.measure.places_in_all.Given as goal

abbrev pub invariant-loop-process : goal.invariant-loop-process
invariant-loop-process l = l.count + places_of_all (drop l.process-index l.procs) ≡ places_of_all l.procs
