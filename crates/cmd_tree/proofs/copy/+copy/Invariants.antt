use Rattle.std.proofs.Common.{◌≡◌, take}
use Rattle.cmd_tree.proofs.copy.+copy.Given as goal

abbrev pub invariant-copy_seq-loop-item : goal.invariant-copy_seq-loop-item
invariant-copy_seq-loop-item l = l.items ≡ take l.item-index l.item-items

abbrev pub invariant-copy_item-loop-seq : goal.invariant-copy_item-loop-seq
invariant-copy_item-loop-seq l = l.copies ≡ take l.seq-index l.seq-items
