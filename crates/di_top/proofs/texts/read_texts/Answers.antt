use Rattle.std.proofs.Common.{◌≡◌, sym, subst}
use Rattle.std.specs.Prelude.{◌⊎◌}
use Rattle.di_top.specs.declared.outcome.Outcome.{Outcome}
use Rattle.di_top.specs.declared.outcome.Outcome.TheVariants.{NoMemory}
use Rattle.di_top.specs.RunForm.{TextsStop, told_of_net, told_of_schedule}
use Rattle.di_top.proofs.Compiling.{if_err}
use Rattle.di_top.proofs.Replays.{net_stops, schedule_stops}
use Rattle.di_top.proofs.texts.read_texts.Goals as goal

pub returns-in_err-net-clause-stop : goal.returns-in_err-net-clause-stop
returns-in_err-net-clause-stop c =
    let refusal = c.in_err-net.field-0.0 in
    let stops = net_stops c.args.netlist.now c.args.schedule.now refusal c.in_ok-within_limit.ensures.ok c.in_ok-within_limit-2.ensures.ok c.in_err-net.ensures.refused in
    let P : Outcome → Type 0 = λ x. (x ≡ NoMemory) ⊎ TextsStop c.args.netlist.now c.args.schedule.now x in
    let Q : Outcome → Type 0 = λ x. x ≡ told_of_net refusal in
    if_err c.from_residual-in_err-net.result Q P (λ x e. let s : told_of_net refusal ≡ x = sym e in subst P s stops) c.from_residual-in_err-net.ensures.1

pub returns-in_err-events-clause-stop : goal.returns-in_err-events-clause-stop
returns-in_err-events-clause-stop c =
    let refusal = c.in_err-events.field-0.0 in
    let stops = schedule_stops c.args.netlist.now c.args.schedule.now c.in_ok-net.net refusal c.in_ok-within_limit.ensures.ok c.in_ok-within_limit-2.ensures.ok
    c.in_ok-net.ensures.ok c.in_err-events.ensures.refused in
    let P : Outcome → Type 0 = λ x. (x ≡ NoMemory) ⊎ TextsStop c.args.netlist.now c.args.schedule.now x in
    let Q : Outcome → Type 0 = λ x. x ≡ told_of_schedule refusal in
    if_err c.from_residual-in_err-events.result Q P (λ x e. let s : told_of_schedule refusal ≡ x = sym e in subst P s stops) c.from_residual-in_err-events.ensures.1
