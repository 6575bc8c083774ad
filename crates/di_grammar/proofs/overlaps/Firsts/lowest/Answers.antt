use Rattle.std.proofs.Common.{sym, subst, ◌∙◌}
use Rattle.std.proofs.lemmas.List.{take_more}
use Rattle.tree_walk.specs.Mirror.Table.{entry_of}
use Rattle.di_grammar.specs.Mirror.Overlapping.{Lowest}
use Rattle.di_grammar.proofs.OverlapSteps.{lowest_next}
use Rattle.di_grammar.proofs.overlaps.Firsts.lowest.Goals as goal

pub loop-mark-preserved : goal.loop-mark-preserved
loop-mark-preserved c =
    let e = c.of.ensures in
    subst (λ ms. Lowest (entry_of c.args.self.now.places) ms c.lower-low.result) (sym (take_more c.args.marks.now c.loop-mark.mark-index _ c.loop-mark-test.true))
    (lowest_next (entry_of c.args.self.now.places) _ _ c.loop-mark.low _
    (record { none = λ z. c.lower-low.ensures.none (e ∙ z); first = λ z. c.lower-low.ensures.first z ∙ e; less = rw e at c.lower-low.ensures.less })
    c.loop-mark.invariant)
