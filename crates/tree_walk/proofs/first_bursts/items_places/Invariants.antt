use Rattle.std.proofs.Common.{◌≡◌, ◌+◌, drop}
use Rattle.cmd_tree.specs.Tree.{places_of}
use Rattle.cmd_tree.specs.View.{seq_of}
use Rattle.tree_walk.proofs.first_bursts.items_places.Given as goal

abbrev pub invariant-loop-item : goal.invariant-loop-item
invariant-loop-item l = l.count + places_of (seq_of (drop l.item-index l.items)) ≡ places_of (seq_of l.items)
