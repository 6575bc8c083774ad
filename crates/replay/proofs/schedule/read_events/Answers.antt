use Rattle.std.proofs.Common.{◌+◌, arith, sym, subst, List}
use Rattle.replay.specs.declared.event.Event.{Event}
use Rattle.replay.specs.Mirror.Schedules.{SoFar}
use Rattle.replay.proofs.Scheduled.{so_far_next, so_far_few}
use Rattle.replay.proofs.schedule.read_events.Goals as goal

pub overflow_add-line : goal.overflow_add-line
overflow_add-line c = omega (
  arith,
  c.requires.short,
  so_far_few c.args.names.now c.args.bytes.now c.loop-text.events.items c.loop-text.rest.now c.loop-text.line c.loop-text.invariant,
)

pub loop-text-preserved : goal.loop-text-preserved
loop-text-preserved c =
    let names = c.args.names.now in
    subst (λ (es : List Event). SoFar names c.args.bytes.now es c.in-Some.more.now (c.loop-text.line + 1)) (sym c.in_ok-push.ensures.items)
    (so_far_next names c.args.bytes.now c.loop-text.events.items c.loop-text.rest.now c.loop-text.line c.in-Some-2.event c.in-Some.text.now c.in-Some.more.now
    c.loop-text.invariant c.in-Some.ensures.cut c.in-Some.ensures.first (c.in_ok-event.ensures.sound c.in-Some-2.event c.in-Some-2.is))
