use Rattle.std.proofs.Common.{◌≡◌, [], drop}
use Rattle.cmd_text.specs.Canonical.{marks_led}
use Rattle.di_io.specs.Printing.{prints}
use Rattle.cmd_text.proofs.writer.print_marks.Given as goal

-- the rest is still to be printed
abbrev pub invariant-loop-mark : goal.invariant-loop-mark
invariant-loop-mark g l =
    prints l.printer (marks_led l.names l.led (drop l.mark-index l.marks))
    ≡ prints l.initial.printer (marks_led l.names [] l.marks)
