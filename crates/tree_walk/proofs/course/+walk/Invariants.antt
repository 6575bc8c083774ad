use Rattle.std.proofs.Common.{◌≡◌, ◌+◌, List, [], length, drop, nat_eq}
use Rattle.std.specs.Prelude.{if◌then◌else◌}
use Rattle.cmd_tree.specs.declared.tree.Proc.{Proc}
use Rattle.cmd_tree.specs.Tree.{places_of, places_among}
use Rattle.cmd_tree.specs.View.{seq_of, seqs_of}
use Rattle.tree_walk.specs.Bursts.{Burst, firsts_of, firsts_among, lasts_of, lasts_after, lasts_among}
use Rattle.tree_walk.specs.Edges.{by_direction}
use Rattle.tree_walk.specs.Passed.{Passed, and_then}
use Rattle.tree_walk.specs.Mirror.Walked.{seq_passed, seqs_passed}
use Rattle.tree_walk.proofs.Walking.{Midway, Ending, Among, Found}
use Rattle.tree_walk.proofs.course.+walk.Given as goal

-- the first bursts are those of the first item
abbrev pub invariant-walk_seq-loop-index : goal.invariant-walk_seq-loop-index
invariant-walk_seq-loop-index g l = record {
  fits : l.walked.after + places_of (seq_of (drop l.index l.items)) ≡ l.first + places_of (seq_of l.items);
  firsts : (if nat_eq l.index 0 then by_direction (firsts_of l.walked.after (seq_of (drop l.index l.items))) else l.walked.edges.firsts)
      ≡ by_direction (firsts_of l.first (seq_of l.items));
  begun : l.index ≡ 0 → l.walked.edges.firsts ≡ by_direction [];
  lasts : Ending l.walked.edges.lasts (λ bs. lasts_after bs l.walked.after (seq_of (drop l.index l.items))) (lasts_of l.first (seq_of l.items));
  knows : (ps : List Proc) (w : Passed) (bs : List Burst) → l.number ≡ length ps + 1 → l.initial.before ≡ by_direction bs
      → g.V.Visit.knows l.initial.visitor ps w
      → Midway (g.V.Visit.knows l.visitor ps) l.before (λ cs. seq_passed cs l.walked.after (seq_of (drop l.index l.items)))
      (and_then w (seq_passed bs l.first (seq_of l.items)));
}

abbrev pub invariant-walk_item-loop-seq : goal.invariant-walk_item-loop-seq
invariant-walk_item-loop-seq g l = record {
  fits : l.walked.after + places_among (seqs_of (drop l.seq-index l.seq-items)) ≡ l.first + places_among (seqs_of l.seq-items);
  firsts : Found l.walked.edges.firsts (firsts_among l.walked.after (seqs_of (drop l.seq-index l.seq-items))) (firsts_among l.first (seqs_of l.seq-items));
  lasts : Found l.walked.edges.lasts (lasts_among l.walked.after (seqs_of (drop l.seq-index l.seq-items))) (lasts_among l.first (seqs_of l.seq-items));
  knows : (ps : List Proc) (w : Passed) → l.number ≡ length ps + 1 → g.V.Visit.knows l.initial.visitor ps w
      → Among (g.V.Visit.knows l.visitor ps) (seqs_passed l.walked.after (seqs_of (drop l.seq-index l.seq-items))) (and_then w (seqs_passed l.first (seqs_of l.seq-items)));
}
