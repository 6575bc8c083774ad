use Rattle.std.proofs.Common.{refl}
use Rattle.std.specs.Prelude.{decimal}
use Rattle.replay.proofs.Scheduled.{not_cut, numbers_cut}
use Rattle.replay.proofs.schedule.read_numbers.Goals as goal

pub returns-in_err-first-clause-none : goal.returns-in_err-first-clause-none
returns-in_err-first-clause-none c = λ none n k h.
    not_cut 32 c.args.bytes.now (decimal n) (decimal k) (c.in_err-first.ensures.none refl) h.2

pub returns-in_err-first-2-clause-none : goal.returns-in_err-first-2-clause-none
returns-in_err-first-2-clause-none c = λ none n k h.
    c.in_err-first-2.ensures.none refl n
    (numbers_cut c.args.bytes.now c.in_ok-first.first.now c.in_ok-first.second.now n k c.in_ok-first.ensures.cut c.in_ok-first.ensures.first h).0

pub returns-in_err-second-clause-none : goal.returns-in_err-second-clause-none
returns-in_err-second-clause-none c = λ none n k h.
    c.in_err-second.ensures.none refl k
    (numbers_cut c.args.bytes.now c.in_ok-first.first.now c.in_ok-first.second.now n k c.in_ok-first.ensures.cut c.in_ok-first.ensures.first h).1
