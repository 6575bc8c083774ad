use Rattle.std.proofs.Common.{◌≡◌, drop, max}
use Rattle.cmd_tree.specs.Tree.{depth_of, depth_among}
use Rattle.cmd_tree.specs.View.{seq_of, seqs_of}
use Rattle.cmd_tree.proofs.measure.+depth.Given as goal

abbrev pub invariant-seq_depth-loop-item : goal.invariant-seq_depth-loop-item
invariant-seq_depth-loop-item l = max l.deepest (depth_of (seq_of (drop l.item-index l.item-items))) ≡ depth_of (seq_of l.item-items)

abbrev pub invariant-item_depth-loop-seq : goal.invariant-item_depth-loop-seq
invariant-item_depth-loop-seq l = max l.deepest (depth_among (seqs_of (drop l.seq-index l.seq-items))) ≡ depth_among (seqs_of l.seq-items)
