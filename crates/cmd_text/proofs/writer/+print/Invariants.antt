use Rattle.std.proofs.Common.{◌≡◌, [], drop}
use Rattle.cmd_tree.specs.View.{seq_of, seqs_of}
use Rattle.cmd_text.specs.Canonical.{items_led, seqs_led}
use Rattle.di_io.specs.Printing.{prints}
use Rattle.cmd_text.proofs.writer.+print.Given as goal

-- the rest is still to be printed
abbrev pub invariant-print_seq-loop-item : goal.invariant-print_seq-loop-item
invariant-print_seq-loop-item g l =
    prints l.printer (items_led l.names l.led (seq_of (drop l.item-index l.item-items)))
    ≡ prints l.initial.printer (items_led l.names [] (seq_of l.item-items))

abbrev pub invariant-print_item-loop-seq : goal.invariant-print_item-loop-seq
invariant-print_item-loop-seq g l =
    prints l.printer (seqs_led l.names l.led (seqs_of (drop l.seq-index l.seq-items)))
    ≡ prints l.initial.printer (seqs_led l.names [] (seqs_of l.seq-items))
