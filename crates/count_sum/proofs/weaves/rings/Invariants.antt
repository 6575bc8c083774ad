use Rattle.std.proofs.Common.{◌≡◌, ◌++◌, map, drop}
use Rattle.di_grammar.specs.Sums.{rings}
use Rattle.count_sum.specs.Mirror.Parts.{counted_of}
use Rattle.count_sum.proofs.weaves.rings.Given as goal

abbrev pub invariant-loop-process : goal.invariant-loop-process
invariant-loop-process l = map counted_of l.parts.items ++ rings (drop l.process-index l.procs) ≡ rings l.procs
