use Rattle.std.proofs.Common.{◌≡◌, drop}
use Rattle.std.specs.Prelude.{flat_map}
use Rattle.di_io.specs.Printing.{prints}
use Rattle.di_top.specs.RunForm.{seen_text}
use Rattle.di_top.proofs.run_form.print_seen.Given as goal

-- the rest is still to be printed
abbrev pub invariant-loop-symbol : goal.invariant-loop-symbol
invariant-loop-symbol g l =
    prints l.printer (flat_map (seen_text l.names l.outs) (drop l.symbol-index l.seen))
    ≡ prints l.initial.printer (flat_map (seen_text l.names l.outs) l.seen)
