use Rattle.std.proofs.Common.{◌≡◌, take}
use Rattle.cmd_tree.proofs.same.+same.Given as goal

abbrev pub invariant-same_item-loop-index : goal.invariant-same_item-loop-index
invariant-same_item-loop-index l = take l.index l.seq-items ≡ take l.index l.others

abbrev pub invariant-same_seq-loop-index : goal.invariant-same_seq-loop-index
invariant-same_seq-loop-index l = take l.index l.item-items ≡ take l.index l.others
