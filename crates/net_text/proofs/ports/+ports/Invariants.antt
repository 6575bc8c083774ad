use Rattle.std.proofs.Common.{◌≡◌, drop}
use Rattle.cmd_tree.specs.Tree.{marks_of, marks_among}
use Rattle.cmd_tree.specs.View.{seq_of, seqs_of}
use Rattle.net_text.specs.Mirror.Ports.{walk_marks}
use Rattle.net_text.proofs.ports.+ports.Given as goal

-- the rest is still to be walked
abbrev pub invariant-print_seq_ports-loop-item : goal.invariant-print_seq_ports-loop-item
invariant-print_seq_ports-loop-item g l =
    walk_marks l.names (l.printer, l.met) (marks_of (seq_of (drop l.item-index l.item-items)))
    ≡ walk_marks l.names (l.initial.printer, l.initial.met) (marks_of (seq_of l.item-items))

abbrev pub invariant-print_item_ports-loop-seq : goal.invariant-print_item_ports-loop-seq
invariant-print_item_ports-loop-seq g l =
    walk_marks l.names (l.printer, l.met) (marks_among (seqs_of (drop l.seq-index l.seq-items)))
    ≡ walk_marks l.names (l.initial.printer, l.initial.met) (marks_among (seqs_of l.seq-items))
