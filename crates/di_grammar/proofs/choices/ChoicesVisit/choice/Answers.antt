use Rattle.std.proofs.Common.{ap, sym, subst, ◌∙◌}
use Rattle.cmd_tree.specs.View.{seqs_of}
use Rattle.tree_walk.specs.declared.edges.Edges.{Edges}
use Rattle.tree_walk.specs.Edges.{by_direction}
use Rattle.tree_walk.specs.Meetings.{alternatives}
use Rattle.di_grammar.specs.Mirror.Stops.{IsBroken, Rises}
use Rattle.di_grammar.proofs.Choosing.{firsts_alternatives, lasts_alternatives}
use Rattle.di_grammar.proofs.Covers.{among_more}
use Rattle.di_grammar.proofs.Places.{firsts_among_rise, lasts_among_rise}
use Rattle.di_grammar.proofs.choices.ChoicesVisit.choice.Goals as goal

pub returns : goal.returns
returns c = λ ps w number is known.
    let k = c.args._place in
    let seqs = seqs_of c.args._seqs.now in
    let firsts = sym (firsts_alternatives k seqs) in
    let lasts = sym (lasts_alternatives k seqs) in
    let broken = c.broken_choice.ensures (alternatives k seqs)
    (ap (λ (e : Edges). e.firsts) is ∙ ap by_direction firsts) (ap (λ (e : Edges). e.lasts) is ∙ ap by_direction lasts)
    (subst (Rises 0) firsts (firsts_among_rise k seqs)) (subst (Rises 0) lasts (lasts_among_rise k seqs)) in
    rw c.lesser-self.ensures (among_more IsBroken w.choices (alternatives k seqs) _ _ known broken)
