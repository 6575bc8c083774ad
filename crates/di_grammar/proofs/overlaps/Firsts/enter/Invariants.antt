use Rattle.std.proofs.Common.{length, take}
use Rattle.di_grammar.specs.Mirror.Laid.{AreSmall}
use Rattle.tree_walk.specs.Mirror.Table.{entry_of}
use Rattle.di_grammar.specs.Mirror.Overlapping.{Enters}
use Rattle.di_grammar.proofs.overlaps.Firsts.enter.Given as goal

abbrev pub invariant-loop-mark : goal.invariant-loop-mark
invariant-loop-mark l = record {
  places : AreSmall l.marks → Enters (entry_of l.initial.self.places) (entry_of l.self.places) l.place (take l.mark-index l.marks);
  sizes : AreSmall l.marks → Enters (entry_of l.initial.self.sizes) (entry_of l.self.sizes) (length l.marks) (take l.mark-index l.marks);
}
