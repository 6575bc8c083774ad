use Rattle.std.proofs.Common.{true≢false, sym, ◌∙◌}
use Rattle.di_grammar.proofs.HousingKinds.{grant_seen, other_seen}
use Rattle.di_grammar.proofs.homes.Homes.see.Goals as goal

pub returns-then-is_grant : goal.returns-then-is_grant
returns-then-is_grant c = λ ps number known.
    grant_seen _ _ _ _ _ ps c.args.process.now (c.is_grant.ensures.is.0 c.if-is_grant.true) (c.walk.ensures.knows ps number) known

pub returns-else-is_grant : goal.returns-else-is_grant
returns-else-is_grant c = λ ps number known.
    other_seen _ _ _ _ ps c.args.process.now (λ g. true≢false (sym (c.is_grant.ensures.is.1 g)
    ∙ c.if-is_grant.false)) (c.walk-else-is_grant.ensures.knows ps number) known
