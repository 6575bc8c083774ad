use Rattle.std.proofs.Common.{◌≡◌, map, take}
use Rattle.cmd_tree.specs.View.{item_of}
use Rattle.cmd_rename.specs.Renaming.{ren_seq, ren_item}
use Rattle.cmd_rename.specs.Table.{number_by}
use Rattle.cmd_rename.proofs.rename.+rename.Given as goal

abbrev pub invariant-rename_item-loop-seq : goal.invariant-rename_item-loop-seq
invariant-rename_item-loop-seq l = l.copies ≡ map (ren_seq (number_by l.table)) (take l.seq-index l.seq-items)

abbrev pub invariant-rename_seq-loop-item : goal.invariant-rename_seq-loop-item
invariant-rename_seq-loop-item l = map item_of l.items ≡ map (ren_item (number_by l.table)) (map item_of (take l.item-index l.item-items))
