use Rattle.std.proofs.Common.{arith}
use Rattle.replay.proofs.Scheduled.{number_from, number_is, no_fault}
use Rattle.replay.proofs.schedule.read_number.Goals as goal

pub returns-in-Ok-clause-some : goal.returns-in-Ok-clause-some
returns-in-Ok-clause-some c =
    let is = c.in-Ok.ensures.number in
    number_from c.args.bytes.now c.in-Ok.number is.0 is.1 (omega (arith, c.if-number.true))

pub returns-in_default-clause-none : goal.returns-in_default-clause-none
returns-in_default-clause-none c = λ none n h.
    let is = c.in-Ok.ensures.number in
    omega (arith, c.if-number.false, is.1, (number_is c.args.bytes.now n h).1, h.0)

pub returns-in_default-2-clause-none : goal.returns-in_default-2-clause-none
returns-in_default-2-clause-none c = λ none n h.
    no_fault c.args.bytes.now n _ h c.in_default.ensures.refused c.in_default.ensures.large
