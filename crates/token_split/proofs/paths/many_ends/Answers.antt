use Rattle.std.proofs.Common.{◌∙◌, arith}
use Rattle.token_split.proofs.TokenSteps.{many_one, many_two}
use Rattle.token_split.proofs.paths.many_ends.Goals as goal

pub returns-in-len1 : goal.returns-in-len1
returns-in-len1 c = c.some.ensures ∙ many_one c.args.outs.now c.args.exits.now (omega arith)

pub returns-in-len2-up : goal.returns-in-len2-up
returns-in-len2-up c = many_two c.args.outs.now c.args.exits.now (omega arith)
