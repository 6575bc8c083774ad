use Rattle.std.proofs.Common.{◌≡◌, ◌++◌, drop}
use Rattle.cmd_tree.specs.Limits.{marks_of_all}
use Rattle.cmd_tree.proofs.marks.all_marks.Given as goal

abbrev pub invariant-loop-process : goal.invariant-loop-process
invariant-loop-process l = l.marks.items ++ marks_of_all (drop l.process-index l.process-items) ≡ marks_of_all l.process-items
