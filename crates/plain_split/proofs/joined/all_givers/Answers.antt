use Rattle.std.proofs.Common.{◌∙◌}
use Rattle.plain_split.proofs.OneWaitRows.{givers_filled}
use Rattle.plain_split.proofs.joined.all_givers.Goals as goal

pub returns : goal.returns
returns c = givers_filled c.args.graph.now c.args.names _ _ _ c.in_ok-rows.ensures (c.as_slice.ensures.value ∙ c.in_ok-links.ensures) c.requires.outs c.requires.once
