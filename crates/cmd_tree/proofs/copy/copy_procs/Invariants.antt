use Rattle.std.proofs.Common.{◌≡◌, take}
use Rattle.cmd_tree.proofs.copy.copy_procs.Given as goal

abbrev pub invariant-loop-process : goal.invariant-loop-process
invariant-loop-process l = l.copies ≡ take l.process-index l.procs
