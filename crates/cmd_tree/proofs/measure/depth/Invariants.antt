use Rattle.std.proofs.Common.{◌≡◌, drop, max}
use Rattle.cmd_tree.specs.Limits.{depth_of_all}
use Rattle.cmd_tree.proofs.measure.depth.Given as goal

abbrev pub invariant-loop-process : goal.invariant-loop-process
invariant-loop-process l = max l.deepest (depth_of_all (drop l.process-index l.process-items)) ≡ depth_of_all l.process-items
