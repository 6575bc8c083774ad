use Rattle.std.proofs.Common.{◌∙◌}
use Rattle.net_text.proofs.Crossings.{chain_slice}
use Rattle.net_text.proofs.wait.rises.Goals as goal

pub returns-in-len1-up : goal.returns-in-len1-up
returns-in-len1-up c = c.is_chain.ensures ∙ chain_slice c.args.cross.now c.in-len1-up.len_at_least
