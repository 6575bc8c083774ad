use Rattle.std.proofs.Common.{ap}
use Rattle.tree_walk.specs.declared.edges.Edges.{Edges}
use Rattle.tree_walk.specs.Meetings.{turn}
use Rattle.di_grammar.proofs.Alternating.{told_rounds}
use Rattle.di_grammar.proofs.Places.{turn_ordered}
use Rattle.di_grammar.proofs.alternation.one_way_rounds.Goals as goal

pub returns : goal.returns
returns c =
    let p = c.args.process.now in
    let is = c.walk-turn.ensures.turn in
    let ordered = turn_ordered p in
    told_rounds p _ (c.same_way.ensures (turn p).lasts (turn p).firsts (ap (λ (e : Edges). e.lasts) is) (ap (λ (e : Edges). e.firsts) is) ordered.0 ordered.1)
