use Rattle.std.proofs.Common.{refl, []}
use Rattle.di_grammar.specs.Mirror.Stops.{Meets}
use Rattle.di_grammar.proofs.Covers.{among_none}
use Rattle.di_grammar.proofs.Alternating.{told_neighbours}
use Rattle.di_grammar.proofs.Places.{neighbours_ordered}
use Rattle.di_grammar.proofs.alternation.one_way_neighbours.Goals as goal

pub returns : goal.returns
returns c =
    let p = c.args.process.now in
    told_neighbours p _ (c.walk.ensures.knows [] refl (λ ordered. among_none Meets) (neighbours_ordered p))
