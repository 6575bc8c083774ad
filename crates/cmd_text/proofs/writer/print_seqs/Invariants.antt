use Rattle.std.proofs.Common.{◌≡◌, [], drop}
use Rattle.cmd_tree.specs.View.{seqs_of}
use Rattle.cmd_text.specs.Canonical.{seqs_led}
use Rattle.di_io.specs.Printing.{prints}
use Rattle.cmd_text.proofs.writer.print_seqs.Given as goal

-- the rest is still to be printed
abbrev pub invariant-loop-seq : goal.invariant-loop-seq
invariant-loop-seq g l =
    prints l.printer (seqs_led l.names l.led (seqs_of (drop l.seq-index l.seqs)))
    ≡ prints l.initial.printer (seqs_led l.names [] (seqs_of l.seqs))
