use Rattle.di_grammar.proofs.Forms.{grant_told}
use Rattle.di_grammar.proofs.SumGrants.{counted_alike}
use Rattle.di_grammar.proofs.grants.is_grant.Goals as goal

pub returns-clause-is : goal.returns-clause-is
returns-clause-is c = grant_told c.args.process.now c.grant_of.result c.is_some.result c.grant_of.ensures c.is_some.ensures

pub returns-clause-counted : goal.returns-clause-counted
returns-clause-counted c =
    counted_alike c.args.process.now c.is_some.result (grant_told c.args.process.now c.grant_of.result c.is_some.result c.grant_of.ensures c.is_some.ensures)
