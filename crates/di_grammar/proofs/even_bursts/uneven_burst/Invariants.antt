use Rattle.std.proofs.Common.{ℕ, ◌<◌, take}
use Rattle.di_grammar.specs.Clashes.{First}
use Rattle.di_grammar.specs.EvenBursts.{IsUneven}
use Rattle.di_grammar.specs.Mirror.Laid.{AreSmall}
use Rattle.tree_walk.specs.Mirror.Table.{entry_of}
use Rattle.di_grammar.specs.Mirror.Uneven.{burst_of, TellsAll}
use Rattle.di_grammar.proofs.even_bursts.uneven_burst.Given as goal

abbrev pub invariant-loop-index : goal.invariant-loop-index
invariant-loop-index l = AreSmall l.marks → ((a : ℕ) → entry_of l.initial.first a < l.place)
    → First (IsUneven (burst_of l.place (take l.index l.marks))) l.found × TellsAll (burst_of l.place (take l.index l.marks)) (entry_of l.first)
