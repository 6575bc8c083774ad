use Rattle.tree_walk.specs.Mirror.Table.{entry_of}
use Rattle.di_grammar.proofs.Entering.{enters_kept, enters_next}
use Rattle.di_grammar.proofs.symbols.enter.Goals as goal

pub loop-mark-preserved : goal.loop-mark-preserved
loop-mark-preserved c =
    let old = entry_of c.loop-mark.entered in
    let new = entry_of c.put.new.self in
    record {
      here = enters_next old new c.args.marks.now c.loop-mark.mark-index _ c.loop-mark-test.true (record { others = c.put.ensures.others; here = c.put.ensures.here }) c.loop-mark.invariant.here;
      kept = λ a small is. enters_kept old new _ (record { others = c.put.ensures.others; here = c.put.ensures.here }) a small (c.loop-mark.invariant.kept a small is);
    }
