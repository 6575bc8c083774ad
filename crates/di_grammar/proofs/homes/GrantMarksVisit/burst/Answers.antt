use Rattle.std.proofs.Common.{true, List, ◌++◌, take, sym, ◌∙◌, ap, subst, append_assoc}
use Rattle.std.proofs.lemmas.List.{append-nil, take_all}
use Rattle.di_grammar.specs.declared.spots.Spot.{Spot}
use Rattle.di_grammar.specs.Spots.{spots_from}
use Rattle.di_grammar.specs.Mirror.Homes.{GrantsSeen, kind_after}
use Rattle.di_grammar.proofs.HousingKinds.{kind_burst}
use Rattle.di_grammar.proofs.Seeing.{spots_next}
use Rattle.di_grammar.proofs.homes.GrantMarksVisit.burst.Goals as goal

pub loop-index-init : goal.loop-index-init
loop-index-init c = λ ss knows. subst (GrantsSeen c.args.self.now.first c.args.self.now.second) (sym (append-nil ss)) knows

pub loop-index-preserved : goal.loop-index-preserved
loop-index-preserved c = λ ss knows.
    let before = spots_from c.args.number c.args.place (take c.loop-index.index c.args.marks.now) in
    subst (GrantsSeen c.see.new.self.first c.see.new.self.second)
    (append_assoc ss before _
    ∙ ap (λ (ts : List Spot). ss ++ ts) (spots_next c.args.number c.args.place c.args.marks.now c.loop-index.index _ c.loop-index-test.true))
    (c.see.ensures (ss ++ before) (c.loop-index.invariant ss knows))

pub returns : goal.returns
returns c = λ ps w number knows.
    subst (GrantsSeen c.loop-index.self.first c.loop-index.self.second)
    (ap (λ ms. kind_after true ps w.bursts ++ spots_from c.args.number c.args.place ms) (take_all c.loop-index.index c.args.marks.now c.loop-index-test.false)
    ∙ kind_burst true ps w.bursts c.args.number c.args.place c.args.marks.now number)
    (c.loop-index.invariant (kind_after true ps w.bursts) knows)
