use Rattle.plain_split.proofs.RoundsRead.{outs_row, outs_low}
use Rattle.plain_split.proofs.round_ends.put_ends.Goals as goal

pub put_end-requires-clause-known : goal.put_end-requires-clause-known
put_end-requires-clause-known c =
    outs_low c.args.parts.now c.requires.tabled c.args.act c.loop-symbol.symbol-index c.deref-symbol-items.result.now c.requires.known
    (outs_row c.args.parts.now c.requires.tabled c.args.act c.index.result.now c.deref-symbol-items.result.now c.requires.known c.index.ensures c.deref-symbol-items.ensures.value)
    c.loop-symbol-test.true
