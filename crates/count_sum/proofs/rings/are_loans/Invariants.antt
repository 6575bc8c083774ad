use Rattle.std.proofs.Common.{◌≡◌, drop}
use Rattle.cmd_tree.specs.View.{seqs_of}
use Rattle.count_sum.specs.Mirror.Rings.{are_loans}
use Rattle.count_sum.proofs.rings.are_loans.Given as goal

abbrev pub invariant-loop-seq : goal.invariant-loop-seq
invariant-loop-seq l = are_loans (seqs_of (drop l.seq-index l.seqs)) ≡ are_loans (seqs_of l.seqs)
