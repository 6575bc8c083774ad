use Rattle.std.proofs.Common.{false, List, ◌++◌, take, sym, ◌∙◌, ap, subst, append_assoc}
use Rattle.std.proofs.lemmas.List.{append-nil, take_all}
use Rattle.di_grammar.specs.declared.spots.Spot.{Spot}
use Rattle.di_grammar.specs.Spots.{spots_from}
use Rattle.di_grammar.specs.Mirror.Homes.{HomesSeen, kind_after}
use Rattle.di_grammar.proofs.HousingKinds.{kind_burst}
use Rattle.di_grammar.proofs.Seeing.{spots_next}
use Rattle.di_grammar.proofs.homes.OtherMarksVisit.burst.Goals as goal

pub loop-index-init : goal.loop-index-init
loop-index-init c = λ ss knows. subst (HomesSeen c.args.self.now.stands) (sym (append-nil ss)) knows

pub loop-index-preserved : goal.loop-index-preserved
loop-index-preserved c = λ ss knows.
    let before = spots_from c.args.number c.args.place (take c.loop-index.index c.args.marks.now) in
    subst (HomesSeen c.see.new.self.stands)
    (append_assoc ss before _
    ∙ ap (λ (ts : List Spot). ss ++ ts) (spots_next c.args.number c.args.place c.args.marks.now c.loop-index.index _ c.loop-index-test.true))
    (c.see.ensures (ss ++ before) (c.loop-index.invariant ss knows))

pub returns : goal.returns
returns c = λ ps w number knows.
    subst (HomesSeen c.loop-index.self.stands)
    (ap (λ ms. kind_after false ps w.bursts ++ spots_from c.args.number c.args.place ms) (take_all c.loop-index.index c.args.marks.now c.loop-index-test.false)
    ∙ kind_burst false ps w.bursts c.args.number c.args.place c.args.marks.now number)
    (c.loop-index.invariant (kind_after false ps w.bursts) knows)
