use Rattle.std.proofs.Common.{◌≡◌, drop}
use Rattle.di_io.specs.Printing.{prints}
use Rattle.di_top.specs.DriveForm.{schedule_text}
use Rattle.di_top.proofs.drive_form.print_events.Given as goal

-- the rest is still to be printed
abbrev pub invariant-loop-event : goal.invariant-loop-event
invariant-loop-event g l =
    prints l.printer (schedule_text l.names (drop l.event-index l.events)) ≡ prints l.initial.printer (schedule_text l.names l.events)
