use Rattle.std.proofs.Common.{ap, ◌∙◌, sym}
use Rattle.cmd_tree.specs.View.{seq_of}
use Rattle.di_io.specs.Printing.{prints}
use Rattle.di_io.proofs.Prints.{prints_none}
use Rattle.cmd_text.proofs.Joined.{body_none, body_more}
use Rattle.cmd_text.proofs.writer.print_body.Goals as goal

pub returns-in-empty : goal.returns-in-empty
returns-in-empty g c =
    let items = ap seq_of c.as_slice.ensures ∙ c.body.view_is in
    let none = body_none c.args.names.now c.as_slice.result.now c.args.body.now c.in-empty.len_below items in
    sym (prints_none c.args.printer.now) ∙ ap (prints c.args.printer.now) none

pub returns-in_default : goal.returns-in_default
returns-in_default g c =
    let items = ap seq_of c.as_slice.ensures ∙ c.body.view_is in
    let more = body_more c.args.names.now c.as_slice.result.now c.args.body.now c.in_default.len_at_least items in
    c.print_seq.ensures ∙ ap (prints c.args.printer.now) more
