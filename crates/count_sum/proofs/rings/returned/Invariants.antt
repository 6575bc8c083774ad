use Rattle.std.proofs.Common.{◌≡◌, ◌++◌, drop}
use Rattle.cmd_tree.specs.View.{seqs_of}
use Rattle.count_sum.specs.Mirror.Rings.{returned_by}
use Rattle.count_sum.proofs.rings.returned.Given as goal

abbrev pub invariant-loop-seq : goal.invariant-loop-seq
invariant-loop-seq l = l.symbols.items ++ returned_by (seqs_of (drop l.seq-index l.seqs)) ≡ returned_by (seqs_of l.seqs)
