use Rattle.std.proofs.Common.{◌≡◌}
use Rattle.std.specs.Prelude.{◌⊎◌}
use Rattle.std.proofs.lemmas.Result.{IfErr-weaker}
use Rattle.di_top.specs.declared.outcome.Outcome.{Outcome}
use Rattle.di_top.specs.declared.outcome.Outcome.TheVariants.{NoMemory}
use Rattle.di_top.specs.Calls.{reading}
use Rattle.di_top.specs.CommandFiles.{StopsWith, FileStops}
use Rattle.di_top.specs.Plans.{IsStop}
use Rattle.di_top.proofs.Compiling.{bytes_stop}
use Rattle.di_top.proofs.command.load_command.Goals as goal

pub returns-clause-stop : goal.returns-clause-stop
returns-clause-stop g c =
    let r = reading g.F.Shelf.content g.F.Shelf.faults c.args.shelf.now c.load_file.new.shelf in
    let P : Outcome → Type 0 = λ x. (x ≡ NoMemory) ⊎ StopsWith c.in_ok-bytes.bytes.items x in
    let Q : Outcome → Type 0 = λ x. IsStop x × ((x ≡ NoMemory) ⊎ FileStops r c.args.file.now x) in
    IfErr-weaker c.read_command.result P Q (λ x h. bytes_stop r c.args.file.now c.in_ok-bytes.bytes.items x c.in_ok-bytes.ensures.ok h)
    (rw c.deref.ensures.value at c.read_command.ensures.stop)
