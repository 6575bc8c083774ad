use Rattle.std.proofs.Common.{◌≡◌, [], drop}
use Rattle.cmd_text.specs.Canonical.{procs_led}
use Rattle.di_io.specs.Printing.{prints}
use Rattle.cmd_text.proofs.writer.print_procs.Given as goal

-- the rest is still to be printed
abbrev pub invariant-loop-process : goal.invariant-loop-process
invariant-loop-process g l =
    prints l.printer (procs_led l.names l.led (drop l.process-index l.procs))
    ≡ prints l.initial.printer (procs_led l.names [] l.procs)
