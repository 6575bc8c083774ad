use Rattle.std.proofs.Common.{Vec, Global}
use Rattle.replay.specs.declared.event.Event.{Event}
use Rattle.replay.proofs.Scheduled.{text_read, line_refused}
use Rattle.replay.proofs.schedule.read_schedule.Goals as goal

pub returns-clause-text_read : goal.returns-clause-text_read
returns-clause-text_read c = text_read (λ (v : Vec Event Global). v.items) c.args.spec.now.names c.args.bytes.now c.read_events.result
    c.read_events.ensures.ok c.read_events.ensures.refused

pub returns-clause-line_refused : goal.returns-clause-line_refused
returns-clause-line_refused c = line_refused (λ (v : Vec Event Global). v.items) c.args.spec.now.names c.args.bytes.now c.read_events.result
    c.read_events.ensures.ok c.read_events.ensures.refused
