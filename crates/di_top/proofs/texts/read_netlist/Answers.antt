use Rattle.std.proofs.Common.{◌≡◌, sym, subst}
use Rattle.std.specs.Prelude.{◌⊎◌}
use Rattle.di_top.specs.declared.outcome.Outcome.{Outcome}
use Rattle.di_top.specs.declared.outcome.Outcome.TheVariants.{NoMemory}
use Rattle.di_top.specs.RunForm.{told_of_net}
use Rattle.di_top.specs.DriveForm.{NetStops}
use Rattle.di_top.proofs.Compiling.{if_err}
use Rattle.di_top.proofs.Drives.{net_halts}
use Rattle.di_top.proofs.texts.read_netlist.Goals as goal

pub returns-in_err-net-clause-stop : goal.returns-in_err-net-clause-stop
returns-in_err-net-clause-stop c =
    let refusal = c.in_err-net.field-0.0 in
    let stops = net_halts c.args.bytes.now refusal c.in_ok-within_limit.ensures.ok c.in_err-net.ensures.refused in
    let P : Outcome → Type 0 = λ x. (x ≡ NoMemory) ⊎ NetStops c.args.bytes.now x in
    let Q : Outcome → Type 0 = λ x. x ≡ told_of_net refusal in
    if_err c.from_residual-in_err-net.result Q P (λ x e. let s : told_of_net refusal ≡ x = sym e in subst P s stops) c.from_residual-in_err-net.ensures.1
