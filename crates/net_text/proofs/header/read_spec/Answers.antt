use Rattle.std.proofs.Common.{◌≡◌, ap, subst}
use Rattle.std.specs.Prelude.{is_some, IfSome, codes}
use Rattle.std.specs.Option.{option_copied}
use Rattle.cmd_text.specs.Canonical.{procs_text}
use Rattle.di_grammar.specs.Admitted.{Answer}
use Rattle.text_lines.specs.Pieces.{pieces_left}
use Rattle.net_text.proofs.NetLines.{no_spec_word, no_spec_text, no_command, spec_is, spec_refused, same_line, other_line}
use Rattle.net_text.proofs.header.read_spec.Goals as goal

pub returns-then-ne-clause-refused : goal.returns-then-ne-clause-refused
returns-then-ne-clause-refused c =
    no_spec_word c.args.line.now c.first_piece.result.0.now (pieces_left 32 (option_copied c.first_piece.result.1)) c.first_piece.ensures.cut
    (other_line c.first_piece.result.0.now c.as_slice.result.now (codes "spec") c.if-ne.ensures c.as_slice.ensures)

pub returns-in_default-clause-refused : goal.returns-in_default-clause-refused
returns-in_default-clause-refused c =
    no_spec_text c.args.line.now c.first_piece.result.0.now (pieces_left 32 (option_copied c.first_piece.result.1)) c.first_piece.ensures.cut
    (ap (λ o. pieces_left 32 (option_copied o)) c.in_default.is)

pub returns-in_default-2-clause-refused : goal.returns-in_default-2-clause-refused
returns-in_default-2-clause-refused c =
    no_command c.args.line.now c.first_piece.result.0.now (pieces_left 32 (option_copied c.first_piece.result.1)) c.first_piece.ensures.cut
    c.in-Some.text.now (ap (λ o. pieces_left 32 (option_copied o)) c.in-Some.is) (c.in_ok-command.ensures.none (ap is_some c.in_default-2.is))

pub returns-in-None-clause-ok : goal.returns-in-None-clause-ok
returns-in-None-clause-ok c =
    let k = c.in-Some-2.command in
    let text = subst (λ o. IfSome o (λ d. c.in-Some.text.now ≡ procs_text d.names d.procs)) c.in-Some-2.is c.in_ok-command.ensures.some in (
      spec_is c.args.line.now c.first_piece.result.0.now (pieces_left 32 (option_copied c.first_piece.result.1)) c.first_piece.ensures.cut
          c.in-Some.text.now k (ap (λ o. pieces_left 32 (option_copied o)) c.in-Some.is)
          (same_line c.first_piece.result.0.now c.as_slice.result.now (codes "spec") c.if-ne.ensures c.as_slice.ensures) text,
      subst (Answer k.procs) c.in-None.is c.check.ensures.answer,
    )

pub returns-in-Some-check-clause-refused : goal.returns-in-Some-check-clause-refused
returns-in-Some-check-clause-refused c =
    let k = c.in-Some-2.command in
    let text = subst (λ o. IfSome o (λ d. c.in-Some.text.now ≡ procs_text d.names d.procs)) c.in-Some-2.is c.in_ok-command.ensures.some in
    spec_refused c.args.line.now k c.in-Some-check.broken
    (spec_is c.args.line.now c.first_piece.result.0.now (pieces_left 32 (option_copied c.first_piece.result.1)) c.first_piece.ensures.cut
    c.in-Some.text.now k (ap (λ o. pieces_left 32 (option_copied o)) c.in-Some.is)
    (same_line c.first_piece.result.0.now c.as_slice.result.now (codes "spec") c.if-ne.ensures c.as_slice.ensures) text)
    (subst (Answer k.procs) c.in-Some-check.is c.check.ensures.answer)
