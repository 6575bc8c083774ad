-- What the walk passes of a sequence, an item, some alternatives that begin at place k.
use Rattle.std.specs.Prelude.{ℕ, List}
use Rattle.cmd_tree.specs.Tree.{TItem, TSeq, TSeqs}
use Rattle.tree_walk.specs.Bursts.{Burst, bursts_of, bursts_in, bursts_among}
use Rattle.tree_walk.specs.Meetings.{neighbours_of, neighbours_in, neighbours_among, choices_of, choices_in, choices_among}
use Rattle.tree_walk.specs.Passed.{Passed}

-- after one of the bursts `before`
abbrev pub seq_passed : List Burst → ℕ → TSeq → Passed
seq_passed before k s = record { bursts = bursts_of k s; neighbours = neighbours_of before k s; choices = choices_of k s }

abbrev pub item_passed : ℕ → TItem → Passed
item_passed k i = record { bursts = bursts_in k i; neighbours = neighbours_in k i; choices = choices_in k i }

abbrev pub seqs_passed : ℕ → TSeqs → Passed
seqs_passed k ss = record { bursts = bursts_among k ss; neighbours = neighbours_among k ss; choices = choices_among k ss }
