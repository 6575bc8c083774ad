use Rattle.di_grammar.proofs.Lists.{each_at}
use Rattle.std.proofs.Common.{length, sym, subst}
use Rattle.std.proofs.lemmas.List.{take_more}
use Rattle.tree_walk.specs.Mirror.Table.{entry_of}
use Rattle.di_grammar.specs.Mirror.Overlapping.{Enters}
use Rattle.di_grammar.proofs.OverlapSteps.{enters_next}
use Rattle.di_grammar.proofs.overlaps.Firsts.enter.Goals as goal

pub loop-mark-preserved : goal.loop-mark-preserved
loop-mark-preserved c =
    let marks = c.args.marks.now in
    let i = c.loop-mark.mark-index in
    let more = sym (take_more marks i _ c.loop-mark-test.true) in
    record {
      places = λ small. subst (Enters (entry_of c.args.self.now.places) (entry_of c.put.new.self) c.args.place) more
          (enters_next _ (entry_of c.loop-mark.self.places) _ _ _ _ (c.put.ensures.here (each_at _ marks i _ c.loop-mark-test.true small)) c.put.ensures.others (c.loop-mark.invariant.places small));
      sizes = λ small. subst (Enters (entry_of c.args.self.now.sizes) (entry_of c.put-in-loop-mark.new.self) (length marks)) more
          (enters_next _ (entry_of c.loop-mark.self.sizes) _ _ _ _ (c.put-in-loop-mark.ensures.here (each_at _ marks i _ c.loop-mark-test.true small)) c.put-in-loop-mark.ensures.others
          (c.loop-mark.invariant.sizes small));
    }
