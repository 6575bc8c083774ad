use Rattle.std.proofs.Common.{◌≡◌, drop}
use Rattle.std.specs.Prelude.{flat_map}
use Rattle.di_io.specs.Printing.{prints}
use Rattle.net_text.specs.NetText.{crossing_text}
use Rattle.net_text.proofs.component.print_crossings.Given as goal

-- the rest is still to be printed
abbrev pub invariant-loop-row : goal.invariant-loop-row
invariant-loop-row g l =
    prints l.printer (flat_map crossing_text (drop l.row-index l.crossings))
    ≡ prints l.initial.printer (flat_map crossing_text l.crossings)
