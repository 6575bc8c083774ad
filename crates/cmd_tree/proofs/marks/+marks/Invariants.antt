use Rattle.std.proofs.Common.{◌≡◌, ◌++◌, drop}
use Rattle.cmd_tree.specs.Tree.{marks_of, marks_among}
use Rattle.cmd_tree.specs.View.{seq_of, seqs_of}
use Rattle.cmd_tree.proofs.marks.+marks.Given as goal

abbrev pub invariant-push_item_marks-loop-seq : goal.invariant-push_item_marks-loop-seq
invariant-push_item_marks-loop-seq l =
    l.marks.items ++ marks_among (seqs_of (drop l.seq-index l.seq-items)) ≡ l.initial.marks.items ++ marks_among (seqs_of l.seq-items)

abbrev pub invariant-push_seq_marks-loop-item : goal.invariant-push_seq_marks-loop-item
invariant-push_seq_marks-loop-item l =
    l.marks.items ++ marks_of (seq_of (drop l.item-index l.item-items)) ≡ l.initial.marks.items ++ marks_of (seq_of l.item-items)
