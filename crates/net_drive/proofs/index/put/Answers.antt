use Rattle.std.proofs.Common.{refl, ◌∙◌}
use Rattle.net_drive.proofs.SumTrees.{put_at, bit_of}
use Rattle.net_drive.proofs.index.put.Goals as goal

pub loop-node-init : goal.loop-node-init
loop-node-init c =
    let t = c.requires.tree in (
      refl,
      (t.0, put_at t.0 c.args.sums.now c.args.bits.now c.args.index c.args.on t.1 c.requires.within c.if-bits-index.false c.from.result (c.from.ensures ∙ bit_of c.args.on)),
    )
