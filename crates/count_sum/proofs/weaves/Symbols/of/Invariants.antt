use Rattle.std.proofs.Common.{◌≡◌, ◌++◌, drop}
use Rattle.count_sum.specs.Mirror.Lists.{joined}
use Rattle.count_sum.specs.Mirror.Weaves.{own, own_made}
use Rattle.count_sum.proofs.weaves.Symbols.of.Given as goal

abbrev pub invariant-loop-process : goal.invariant-loop-process
invariant-loop-process l = record {
  own : l.all.items ++ joined own (drop l.process-index l.procs) ≡ joined own l.procs;
  made : l.made.items ++ joined own_made (drop l.process-index l.procs) ≡ joined own_made l.procs;
}
