use Rattle.std.proofs.Common.{List, [], ◌∷◌, ◌++◌, sym, subst}
use Rattle.tree_walk.specs.Bursts.{Burst}
use Rattle.tree_walk.specs.Mirror.Table.{entry_of}
use Rattle.di_grammar.specs.Mirror.Twins.{Told, burst_at}
use Rattle.di_grammar.proofs.Twinning.{entered_more}
use Rattle.di_grammar.proofs.twins.SearchVisitFirst.first_burst.Goals as goal

pub returns : goal.returns
returns c = λ all bs known.
    let y = burst_at c.args.place c.args.marks.now in
    let told = c.found_with-self.ensures bs known.1 (subst (λ (zs : List Burst). Told zs bs c.args.self.now.found) (sym known.0) known.2) in (
      known.0,
      entered_more (entry_of c.args.self.now.entered) _ bs y c.enter.ensures.kept c.enter.ensures.here known.1,
      subst (λ (zs : List Burst). Told zs (bs ++ y ∷ []) c.found_with-self.result) known.0 told,
    )
