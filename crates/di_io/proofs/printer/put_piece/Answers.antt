use Rattle.std.proofs.Common.{ℕ, ◌≤◌, false, List, [], Option, OnOk, OnErr}
use Rattle.std.specs.Prelude.{Result, Ok, Err, is_err}
use Rattle.di_io.specs.declared.PutFault.{PutFault}
use Rattle.di_io.specs.Faults.{Rose}
use Rattle.di_io.specs.Written.{Gains, GainsFront}
use Rattle.di_io.specs.Printing.{Printing}
use Rattle.di_io.specs.Mirror.Printer.{Has}
use Rattle.di_io.proofs.Prints.{has_put, has_failed}
use Rattle.di_io.proofs.printer.put_piece.Goals as goal

-- after a put, whatever it answered
after : (r : Result (Unit {0}) PutFault) (p : Printing) (old now : Option (List ℕ)) (before count : ℕ)
    (piece : List ℕ) → Has p old before piece false → before ≤ count → OnOk r (Gains old now piece)
    → OnErr r (Rose before count) → OnErr r (GainsFront old now piece) → Has p now count [] (is_err r)
after (Ok v) p old now before count piece h later ok rose front =
    has_put p old now before count piece h ok later
after (Err e) p old now before count piece h later ok rose front =
    has_failed p old now before count piece h front later rose

pub returns : goal.returns
returns g c p h =
    let put = c.put.ensures in
    let running = rw c.if-failed.false at h in
    rw c.is_err.ensures.value (after c.put.result p _ _ _ _ _ running put.later put.ok put.failed put.front)
