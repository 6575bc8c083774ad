use Rattle.std.proofs.Common.{◌≡◌, drop}
use Rattle.std.specs.Prelude.{flat_map}
use Rattle.di_io.specs.Printing.{prints}
use Rattle.net_text.specs.NetText.{number_text}
use Rattle.net_text.proofs.component.print_numbers.Given as goal

-- the rest is still to be printed
abbrev pub invariant-loop-number : goal.invariant-loop-number
invariant-loop-number g l =
    prints l.printer (flat_map number_text (drop l.number-index l.numbers))
    ≡ prints l.initial.printer (flat_map number_text l.numbers)
