use Rattle.std.proofs.Common.{arith}
use Rattle.tree_walk.proofs.Walking.{places_seqs}
use Rattle.tree_walk.proofs.FirstBursts.{reached_next}
use Rattle.tree_walk.proofs.first_bursts.+firsts.Goals as goal

pub walk_item-loop-seq-preserved : goal.walk_item-loop-seq-preserved
walk_item-loop-seq-preserved n g c =
    let seqs = c.as_slice-seq-items.result.now in
    let index = c.loop-seq.seq-index in
    let seq = c.seq-item.result in
    let is = c.seq-item.is in
    let inside = c.loop-seq-test.true in
    record {
      fits = omega (arith, c.loop-seq.invariant.fits, places_seqs seqs index seq inside is, c.walk_seq-here.ensures.after);
      knows = λ aim bs known. reached_next (n.V.VisitFirst.knows aim c.loop-seq.visitor) (n.V.VisitFirst.knows aim c.walk_seq-here.new.visitor) c.loop-seq.here _ seqs index seq _ inside is c.walk_seq-here.ensures.after
          (c.walk_seq-here.ensures.knows aim) (c.loop-seq.invariant.knows aim bs known);
    }
