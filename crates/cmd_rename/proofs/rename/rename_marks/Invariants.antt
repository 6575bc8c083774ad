use Rattle.std.proofs.Common.{◌≡◌, take}
use Rattle.cmd_rename.specs.Renaming.{ren_marks}
use Rattle.cmd_rename.specs.Table.{number_by}
use Rattle.cmd_rename.proofs.rename.rename_marks.Given as goal

abbrev pub invariant-loop-mark : goal.invariant-loop-mark
invariant-loop-mark l = l.copies ≡ ren_marks (number_by l.table) (take l.mark-index l.marks)
