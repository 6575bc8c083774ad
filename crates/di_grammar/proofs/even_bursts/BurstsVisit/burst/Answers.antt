use Rattle.std.proofs.Common.{◌++◌, ◌∷◌, [], sym, subst, arith}
use Rattle.tree_walk.specs.Bursts.{Burst}
use Rattle.di_grammar.specs.Clashes.{First}
use Rattle.di_grammar.specs.Mirror.Laid.{IsSmall}
use Rattle.di_grammar.specs.Mirror.Uneven.{UnevenAmong, burst_of}
use Rattle.di_grammar.proofs.Firsts.{first_like, first_either}
use Rattle.di_grammar.proofs.Laying.{laid_last}
use Rattle.di_grammar.proofs.Lists.{each_front, each_back}
use Rattle.di_grammar.proofs.UnevenSteps.{among_next}
use Rattle.di_grammar.proofs.even_bursts.BurstsVisit.burst.Goals as goal

pub returns : goal.returns
returns c = λ ps w number known end laid small.
    let b : Burst = burst_of c.args.place c.args.marks.now in
    let ends = laid_last 1 end w.bursts b laid in
    let old = known b.place ends.0 (each_front IsSmall w.bursts (b ∷ []) small) in
    let here = (each_back IsSmall w.bursts (b ∷ []) small).0 in
    record {
      before = λ a. omega (arith, ends.1, c.uneven_burst-clash.ensures.before here old.before a);
      told = subst (First (UnevenAmong (w.bursts ++ b ∷ []))) (sym c.lesser-self.ensures)
          (first_like _ _ _ (among_next w.bursts b) (first_either _ _ _ _ old.told (c.uneven_burst-clash.ensures.told here old.before)));
    }
