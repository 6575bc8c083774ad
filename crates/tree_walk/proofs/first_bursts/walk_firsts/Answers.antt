use Rattle.std.proofs.Common.{arith}
use Rattle.tree_walk.proofs.Walking.{places_seqs}
use Rattle.tree_walk.proofs.FirstBursts.{reached_next}
use Rattle.tree_walk.proofs.first_bursts.walk_firsts.Goals as goal

pub loop-seq-preserved : goal.loop-seq-preserved
loop-seq-preserved g c =
    let seqs = c.args.choice.seqs.now in
    let index = c.loop-seq.seq-index in
    let seq = c.seq-item.result in
    let is = c.seq-item.is in
    let inside = c.loop-seq-test.true in
    record {
      fits = omega (arith, c.loop-seq.invariant.fits, places_seqs seqs index seq inside is, c.walk_seq-here.ensures.after);
      knows = λ aim bs known. reached_next (g.V.VisitFirst.knows aim c.loop-seq.visitor) (g.V.VisitFirst.knows aim c.walk_seq-here.new.visitor) c.loop-seq.here _ seqs index seq _ inside is c.walk_seq-here.ensures.after
          (c.walk_seq-here.ensures.knows aim) (c.loop-seq.invariant.knows aim bs known);
    }
