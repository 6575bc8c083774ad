use Rattle.std.proofs.Common.{refl}
use Rattle.plain_split.proofs.LinesFound.{kept_more}
use Rattle.plain_split.proofs.lines.Lines.of.Goals as goal

pub loop-wire-preserved : goal.loop-wire-preserved
loop-wire-preserved c =
    kept_more _ c.args.wires.now c.loop-wire.set.keys c.insert_full.new.self.keys c.loop-wire.wire-index _ c.requires c.loop-wire-test.true c.loop-wire.invariant refl c.in_ok-insert_full.ensures.keys
