use Rattle.std.proofs.Common.{length, take}
use Rattle.di_grammar.specs.Lists.{Each}
use Rattle.tree_walk.specs.Mirror.Table.{entry_of}
use Rattle.di_grammar.specs.Mirror.Overlapping.{StoodAt}
use Rattle.di_grammar.proofs.overlaps.Firsts.stood_at.Given as goal

abbrev pub invariant-loop-mark : goal.invariant-loop-mark
invariant-loop-mark l = Each (StoodAt (entry_of l.self.places) (entry_of l.self.sizes) l.place (length l.marks)) (take l.mark-index l.marks)
