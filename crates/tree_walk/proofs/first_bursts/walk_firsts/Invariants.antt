use Rattle.std.proofs.Common.{◌≡◌, ◌+◌, List, ◌++◌, drop}
use Rattle.cmd_tree.specs.Tree.{places_among}
use Rattle.cmd_tree.specs.View.{seqs_of}
use Rattle.tree_walk.specs.Bursts.{Burst, firsts_among}
use Rattle.tree_walk.proofs.FirstBursts.{Reached}
use Rattle.tree_walk.proofs.first_bursts.walk_firsts.Given as goal

abbrev pub invariant-loop-seq : goal.invariant-loop-seq
invariant-loop-seq g l = record {
  fits : l.here + places_among (seqs_of (drop l.seq-index l.seq-items)) ≡ l.choice.place + places_among (seqs_of l.choice.seqs.now);
  knows : (aim : g.V.VisitFirst.Aim) (bs : List Burst) → g.V.VisitFirst.knows aim l.initial.visitor bs
      → Reached (g.V.VisitFirst.knows aim l.visitor) (firsts_among l.here (seqs_of (drop l.seq-index l.seq-items))) (bs ++ firsts_among l.choice.place (seqs_of l.choice.seqs.now));
}
