use Rattle.std.proofs.Common.{length, refl, ap, arith}
use Rattle.std.specs.BTreeMap.{get}
use Rattle.cmd_machine.specs.Mirror.Positions.{key_cmp}
use Rattle.cmd_machine.proofs.Entering.{none_entered, one_entered, all_entered, symbol_at}
use Rattle.cmd_machine.proofs.position.enter.Goals as goal

pub loop-index-init : goal.loop-index-init
loop-index-init c = λ L h. none_entered L c.args.leg.now (get key_cmp c.args.spots.now) h

pub loop-index-preserved : goal.loop-index-preserved
loop-index-preserved c = λ L h. one_entered L c.args.leg.now (get key_cmp c.loop-index.spots)
    (get key_cmp c.insert.new.self) c.loop-index.index _ _ refl
    (symbol_at c.as_slice-mark-items.result.now c.args.leg.now.marks c.loop-index.index _ _
    c.as_slice-mark-items.ensures c.loop-index-test.true refl) refl c.len-size.ensures refl
    c.in_ok-insert.ensures.updates.0 (c.loop-index.invariant L h)

pub returns : goal.returns
returns c = λ L h. all_entered L c.args.leg.now (get key_cmp c.loop-index.spots) c.loop-index.index
    (omega (arith, c.loop-index-test.false, ap length c.as_slice-mark-items.ensures)) (c.loop-index.invariant L h)
