use Rattle.di_grammar.proofs.Forms.{body_many}
use Rattle.di_grammar.proofs.grants.body_grant.Goals as goal

pub returns-in_default : goal.returns-in_default
returns-in_default c = body_many c.args.items.now c.in_default.len_at_least
