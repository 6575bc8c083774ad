use Rattle.std.proofs.Common.{◌≡◌, ◌+◌, List, ◌++◌, drop}
use Rattle.cmd_tree.specs.Tree.{places_among}
use Rattle.cmd_tree.specs.View.{seqs_of}
use Rattle.tree_walk.specs.Bursts.{Burst, firsts_among}
use Rattle.tree_walk.proofs.FirstBursts.{Reached}
use Rattle.tree_walk.proofs.first_bursts.+firsts.Given as goal

abbrev pub invariant-walk_item-loop-seq : goal.invariant-walk_item-loop-seq
invariant-walk_item-loop-seq g l = record {
  fits : l.here + places_among (seqs_of (drop l.seq-index l.seq-items)) ≡ l.place + places_among (seqs_of l.seq-items);
  knows : (aim : g.V.VisitFirst.Aim) (bs : List Burst) → g.V.VisitFirst.knows aim l.initial.visitor bs
      → Reached (g.V.VisitFirst.knows aim l.visitor) (firsts_among l.here (seqs_of (drop l.seq-index l.seq-items))) (bs ++ firsts_among l.place (seqs_of l.seq-items));
}
