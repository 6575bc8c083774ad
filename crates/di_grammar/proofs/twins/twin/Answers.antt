use Rattle.di_grammar.proofs.Lists.{none_within}
use Rattle.std.proofs.Common.{[], refl}
use Rattle.di_grammar.specs.Mirror.Twins.{firsts, burst_at}
use Rattle.di_grammar.proofs.Twinning.{against_none}
use Rattle.di_grammar.proofs.twins.twin.Goals as goal

pub returns-in-None : goal.returns-in-None
returns-in-None c = λ climbs.
    let all = firsts c.args.choice in
    let ms = c.args.marks.now in
    let found = (c.walk_firsts.ensures ms [] (refl, λ x d w same. none_within d w)).1 climbs in
    against_none all (burst_at c.args.place ms) (rw c.in-None.is at found)

pub returns-in-Some : goal.returns-in-Some
returns-in-Some c = λ climbs.
    let all = firsts c.args.choice in
    let ms = c.args.marks.now in
    let found = (c.walk_firsts.ensures ms [] (refl, λ x d w same. none_within d w)).1 climbs in
    c.twin_at.ensures all ms (rw c.in-Some.is at found)
