use Rattle.std.proofs.Common.{◌≡◌, ◌++◌, drop}
use Rattle.cmd_tree.specs.Tree.{marks_of, marks_among}
use Rattle.cmd_tree.specs.View.{seq_of, seqs_of}
use Rattle.cmd_rename.specs.Symbols.{symbols_in}
use Rattle.cmd_rename.proofs.symbols.+symbols.Given as goal

abbrev pub invariant-push_item_symbols-loop-seq : goal.invariant-push_item_symbols-loop-seq
invariant-push_item_symbols-loop-seq l =
    l.symbols.items ++ symbols_in (marks_among (seqs_of (drop l.seq-index l.seq-items))) ≡ l.initial.symbols.items ++ symbols_in (marks_among (seqs_of l.seq-items))

abbrev pub invariant-push_seq_symbols-loop-item : goal.invariant-push_seq_symbols-loop-item
invariant-push_seq_symbols-loop-item l =
    l.symbols.items ++ symbols_in (marks_of (seq_of (drop l.item-index l.item-items))) ≡ l.initial.symbols.items ++ symbols_in (marks_of (seq_of l.item-items))
