use Rattle.std.proofs.Common.{◌≡◌, drop}
use Rattle.cmd_tree.specs.View.{seqs_of}
use Rattle.count_sum.specs.Mirror.Rings.{are_gifts}
use Rattle.count_sum.proofs.rings.are_gifts.Given as goal

abbrev pub invariant-loop-seq : goal.invariant-loop-seq
invariant-loop-seq l = are_gifts (seqs_of (drop l.seq-index l.seqs)) ≡ are_gifts (seqs_of l.seqs)
