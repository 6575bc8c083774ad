use Rattle.std.proofs.Common.{◌≡◌, ◌+◌, ◌++◌, drop, length}
use Rattle.cmd_tree.specs.Tree.{places_of, places_among}
use Rattle.cmd_tree.specs.View.{seq_of, seqs_of}
use Rattle.place_graph.specs.Points.{legs_of, legs_among}
use Rattle.place_graph.proofs.leg.+legs.Given as goal

abbrev pub invariant-push_seq_legs-loop-item : goal.invariant-push_seq_legs-loop-item
invariant-push_seq_legs-loop-item l = record {
  left : l.left + l.item-index ≡ length l.item-items;
  places : l.place + places_of (seq_of (drop l.item-index l.item-items)) ≡ l.first + places_of
      (seq_of l.item-items);
  legs : l.legs.items ++ legs_of l.place (seq_of (drop l.item-index l.item-items)) l.entry
      l.later ≡ l.initial.legs.items ++ legs_of l.first (seq_of l.item-items) l.at l.later;
}

abbrev pub invariant-push_item_legs-loop-seq : goal.invariant-push_item_legs-loop-seq
invariant-push_item_legs-loop-seq l = record {
  places : l.place + places_among (seqs_of (drop l.seq-index l.seq-items)) ≡ l.first + places_among
      (seqs_of l.seq-items);
  legs : l.legs.items ++ legs_among l.place (seqs_of (drop l.seq-index l.seq-items)) l.at
      l.later ≡ l.initial.legs.items ++ legs_among l.first (seqs_of l.seq-items) l.at l.later;
}
