use Rattle.std.proofs.Common.{sym}
use Rattle.di_grammar.proofs.Firsts.{first_like}
use Rattle.di_grammar.proofs.Forms.{found_grants}
use Rattle.di_grammar.proofs.GrantedSteps.{gifts_fit, gifts_are_small, twice_of, no_grant_breaks}
use Rattle.di_grammar.proofs.granted.given_twice.Goals as goal

pub twice_among-requires-clause-few : goal.twice_among-requires-clause-few
twice_among-requires-clause-few c = gifts_fit c.args.process.now _ (found_grants c.args.process.now _ (sym c.in-Some.ensures)) c.requires.few

pub twice_among-requires-clause-small : goal.twice_among-requires-clause-small
twice_among-requires-clause-small c = gifts_are_small c.args.process.now _ (found_grants c.args.process.now _ (sym c.in-Some.ensures)) c.requires.small

pub returns-in-None : goal.returns-in-None
returns-in-None c = no_grant_breaks c.args.process.now c.in-None.ensures

pub returns-in-Some : goal.returns-in-Some
returns-in-Some c =
    first_like _ _ _ (twice_of c.args.process.now _ (found_grants c.args.process.now _ (sym c.in-Some.ensures))) c.twice_among.ensures
