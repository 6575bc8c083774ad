use Rattle.di_grammar.proofs.Housing.{grant_first, grant_second, grant_same, grant_both}
use Rattle.di_grammar.proofs.homes.GrantMarks.see.Goals as goal

pub returns-in-None-default : goal.returns-in-None-default
returns-in-None-default c = λ ss seen. grant_first c.args.self.now.first c.args.self.now.second ss c.args.spot c.in-None-default.is-0 seen

pub returns-then-known-spot : goal.returns-then-known-spot
returns-then-known-spot c = λ ss seen.
    grant_second c.args.self.now.first c.args.self.now.second ss c.args.spot c.in-Some-None.known c.in-Some-None.is-0 c.in-Some-None.is-1 c.if-known-spot.true seen

pub returns-else-known-spot : goal.returns-else-known-spot
returns-else-known-spot c = λ ss seen.
    grant_same c.args.self.now.first c.args.self.now.second ss c.args.spot c.in-Some-None.known c.in-Some-None.is-0 c.if-known-spot.false seen

pub returns-in-Some-Some : goal.returns-in-Some-Some
returns-in-Some-Some c = λ ss seen.
    grant_both c.args.self.now.first c.args.self.now.second ss c.args.spot c.in-Some-Some.field-0-0 c.in-Some-Some.field-0-1 c.in-Some-Some.is-0 c.in-Some-Some.is-1 seen
