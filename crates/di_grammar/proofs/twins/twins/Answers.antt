use Rattle.std.proofs.Common.{refl, [], true≢false, sym, ◌∙◌}
use Rattle.di_grammar.specs.Mirror.Twins.{HasTwins}
use Rattle.di_grammar.proofs.Covers.{among_none}
use Rattle.di_grammar.proofs.Climbing.{choices_climb}
use Rattle.di_grammar.proofs.Alternatives.{told_twins}
use Rattle.di_grammar.proofs.twins.twins.Goals as goal

pub returns : goal.returns
returns c =
    let p = c.args.process.now in
    told_twins p _ (λ g. true≢false (sym (c.requires.told.1 g) ∙ c.if-grant.false))
    (c.walk.ensures.knows [] refl (λ climbing. among_none HasTwins) (choices_climb p c.requires.whole))
