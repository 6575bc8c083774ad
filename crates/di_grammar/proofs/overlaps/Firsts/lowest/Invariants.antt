use Rattle.std.proofs.Common.{take}
use Rattle.tree_walk.specs.Mirror.Table.{entry_of}
use Rattle.di_grammar.specs.Mirror.Overlapping.{Lowest}
use Rattle.di_grammar.proofs.overlaps.Firsts.lowest.Given as goal

abbrev pub invariant-loop-mark : goal.invariant-loop-mark
invariant-loop-mark l = Lowest (entry_of l.self.places) (take l.mark-index l.marks) l.low
