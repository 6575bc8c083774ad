use Rattle.std.proofs.Common.{◌≡◌, drop}
use Rattle.cmd_tree.specs.View.{seqs_of}
use Rattle.di_grammar.specs.Mirror.Found.{are_gifts}
use Rattle.di_grammar.proofs.grants.are_gifts.Given as goal

abbrev pub invariant-loop-seq : goal.invariant-loop-seq
invariant-loop-seq l = are_gifts l.form (seqs_of (drop l.seq-index l.choice)) ≡ are_gifts l.form (seqs_of l.choice)
