use Rattle.place_graph.specs.Mirror.Numbers.{AreNumerable}
use Rattle.std.proofs.Common.{◌∙◌, sym, subst}
use Rattle.place_graph.specs.declared.draw.TheConstants.{POINTS}
use Rattle.place_graph.proofs.LegBounds.{numerable}
use Rattle.place_graph.proofs.draw.graph.Goals as goal

pub number_waits-requires : goal.number_waits-requires
number_waits-requires c = subst (λ L. AreNumerable L POINTS)
    (sym (c.deref.ensures.value ∙ c.in_ok-legs.ensures)) (numerable c.args.process.now c.requires)

pub number_acts-requires : goal.number_acts-requires
number_acts-requires c = subst (λ L. AreNumerable L POINTS)
    (sym (c.deref-2.ensures.value ∙ c.in_ok-legs.ensures)) (numerable c.args.process.now c.requires)

pub number_bursts-requires : goal.number_bursts-requires
number_bursts-requires c = subst (λ L. AreNumerable L POINTS)
    (sym (c.deref-3.ensures.value ∙ c.in_ok-legs.ensures)) (numerable c.args.process.now c.requires)

pub crosses-requires-clause-legs : goal.crosses-requires-clause-legs
crosses-requires-clause-legs c = subst (λ L. AreNumerable L POINTS)
    (sym (c.deref-4.ensures.value ∙ c.in_ok-legs.ensures)) (numerable c.args.process.now c.requires)

pub exits-requires-clause-legs : goal.exits-requires-clause-legs
exits-requires-clause-legs c = subst (λ L. AreNumerable L POINTS)
    (sym (c.deref-5.ensures.value ∙ c.in_ok-legs.ensures)) (numerable c.args.process.now c.requires)
