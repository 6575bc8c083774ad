use Rattle.std.proofs.Common.{take}
use Rattle.di_grammar.specs.Mirror.Given.{gifts_in, Differ, GaveAll}
use Rattle.tree_walk.specs.Mirror.Table.{entry_of}
use Rattle.di_grammar.proofs.granted.twice_among.Given as goal

abbrev pub invariant-loop-index : goal.invariant-loop-index
invariant-loop-index l = record {
  differ : Differ (gifts_in l.form (take l.index l.choice));
  gave : GaveAll (gifts_in l.form (take l.index l.choice)) (entry_of l.places);
}
