use Rattle.std.proofs.Common.{◌+◌, ap, ◌∙◌, sym}
use Rattle.di_io.specs.Printing.{Printing}
use Rattle.net_text.proofs.Walks.{walk_first_mark, walk_other_mark}
use Rattle.net_text.proofs.ports.print_mark_port.Goals as goal

pub returns-then-mark-met : goal.returns-then-mark-met
returns-then-mark-met g c =
    sym (walk_other_mark c.args.names.now c.args.printer.now c.args.met c.args.mark c.if-mark-met.true)

pub returns : goal.returns
returns g c =
    ap (λ (p : Printing). (p, c.args.met + 1)) c.print_port.ensures
    ∙ sym (walk_first_mark c.args.names.now c.args.printer.now c.args.met c.args.mark c.if-mark-met.false)
