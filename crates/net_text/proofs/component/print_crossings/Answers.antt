use Rattle.di_io.proofs.Prints.{prints_rest}
use Rattle.di_io.proofs.Each.{each_next}
use Rattle.net_text.specs.NetText.{crossing_text}
use Rattle.net_text.proofs.component.print_crossings.Goals as goal

pub loop-row-preserved : goal.loop-row-preserved
loop-row-preserved g c =
    prints_rest _ _ _ _ _ _
    (each_next crossing_text c.args.crossings.now c.loop-row.row-index _ c.loop-row-test.true)
    c.print_crossing.ensures c.loop-row.invariant
