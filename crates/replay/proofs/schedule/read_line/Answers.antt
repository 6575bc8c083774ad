use Rattle.std.proofs.Common.{sym, subst}
use Rattle.std.proofs.lemmas.Result.{IfOk-weaker}
use Rattle.replay.specs.Mirror.Schedules.{Reads, given}
use Rattle.replay.proofs.Scheduled.{reads_give}
use Rattle.replay.proofs.schedule.read_line.Goals as goal

pub returns-in-Some : goal.returns-in-Some
returns-in-Some c =
    let names = c.args.names.now in
    let name = c.in-Some.name.now in
    let read : Reads names c.args.line.now (given names name) =
    subst (λ text. Reads names text (given names name)) (sym c.in-Some.ensures.some) (reads_give names name) in
    IfOk-weaker c.read_give.result _ _ (λ event is. subst (Reads names c.args.line.now) (sym is) read) c.read_give.ensures
