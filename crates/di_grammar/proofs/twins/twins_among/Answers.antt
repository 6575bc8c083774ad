use Rattle.std.proofs.Common.{[], refl}
use Rattle.di_grammar.specs.Mirror.Twins.{firsts}
use Rattle.di_grammar.proofs.Twinning.{told_begun, told_all}
use Rattle.di_grammar.proofs.twins.twins_among.Goals as goal

pub returns : goal.returns
returns c = λ climbs.
    let all = firsts c.args.choice in
    told_all all _ (c.walk_firsts.ensures all [] (refl, tt, told_begun all)).2 climbs
