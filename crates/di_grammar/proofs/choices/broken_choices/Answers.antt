use Rattle.std.proofs.Common.{refl, [], true≢false, sym, ◌∙◌}
use Rattle.di_grammar.specs.Mirror.Stops.{IsBroken}
use Rattle.di_grammar.proofs.Covers.{among_none}
use Rattle.di_grammar.proofs.Choosing.{told_choices}
use Rattle.di_grammar.proofs.choices.broken_choices.Goals as goal

pub returns : goal.returns
returns c = told_choices c.args.process.now _ (λ g. true≢false (sym (c.requires.told.1 g) ∙ c.if-grant.false)) (c.walk.ensures.knows [] refl (among_none IsBroken))
