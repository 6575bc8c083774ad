use Rattle.std.proofs.Common.{ap, [], ◌∷◌}
use Rattle.tree_walk.specs.declared.edges.Edges.{Edges}
use Rattle.di_grammar.specs.Mirror.Stops.{IsOrdered, Meets}
use Rattle.di_grammar.proofs.Covers.{among_more}
use Rattle.di_grammar.proofs.Lists.{each_front, each_back}
use Rattle.di_grammar.proofs.alternation.MeetingsVisit.neighbours.Goals as goal

pub returns : goal.returns
returns c = λ ps w n number is known ordered.
    let here = (each_back IsOrdered w.neighbours (n ∷ []) ordered).0 in
    let met = c.same_way.ensures n.firsts n.lasts (ap (λ (e : Edges). e.firsts) is) (ap (λ (e : Edges). e.lasts) is) here.1 here.0 in
    rw c.lesser-self.ensures (among_more Meets w.neighbours n _ _ (known (each_front IsOrdered w.neighbours (n ∷ []) ordered)) met)
