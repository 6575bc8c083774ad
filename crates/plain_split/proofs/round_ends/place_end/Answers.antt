use Rattle.std.proofs.Common.{sym}
use Rattle.plain_split.proofs.RoundsRead.{inner_end}
use Rattle.plain_split.proofs.round_ends.place_end.Goals as goal

pub returns-else-depth-parts : goal.returns-else-depth-parts
returns-else-depth-parts c = sym (inner_end c.args.parts.now c.requires.tabled c.args.depth c.args.place c.if-depth-parts.false)
