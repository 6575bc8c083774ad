use Rattle.di_io.proofs.Prints.{prints_rest}
use Rattle.di_io.proofs.Each.{each_next}
use Rattle.di_top.specs.DriveForm.{event_line}
use Rattle.di_top.proofs.drive_form.print_events.Goals as goal

pub loop-event-preserved : goal.loop-event-preserved
loop-event-preserved g c =
    prints_rest _ _ _ _ _ _
    (each_next (event_line c.args.names.now) c.args.events.now c.loop-event.event-index _ c.loop-event-test.true)
    c.print_event.ensures c.loop-event.invariant
