use Rattle.di_io.proofs.Prints.{prints_rest}
use Rattle.di_io.proofs.Each.{each_next}
use Rattle.di_top.specs.RunForm.{seen_text}
use Rattle.di_top.proofs.run_form.print_seen.Goals as goal

pub loop-symbol-preserved : goal.loop-symbol-preserved
loop-symbol-preserved g c =
    prints_rest _ _ _ _ _ _
    (each_next (seen_text c.args.names.now c.args.outs.now) c.args.seen.now c.loop-symbol.symbol-index _ c.loop-symbol-test.true)
    c.print_symbol.ensures c.loop-symbol.invariant
