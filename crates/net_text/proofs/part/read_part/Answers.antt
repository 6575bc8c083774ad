use Rattle.std.proofs.Common.{◌≡◌, Some, ap, subst}
use Rattle.std.specs.Prelude.{IfSome, is_some}
use Rattle.std.specs.Option.{option_copied}
use Rattle.net_text.specs.NetFault.{IsPartLine, IsNoPartLine}
use Rattle.net_text.specs.Mirror.PartWords.{ends_in, Wait, wait_in, IsPlainPart, IsWaitPart, IsNoWaitPart}
use Rattle.text_lines.specs.Pieces.{pieces_left}
use Rattle.net_text.proofs.PartLines.{plain_back, wait_part_back, plain_unread, plain_none, wait_unread, wait_none, named_so, named_else, some_more, ok_some_more, ok_none_more}
use Rattle.net_text.proofs.part.read_part.Goals as goal

pub returns-in_default-clause-none : goal.returns-in_default-clause-none
returns-in_default-clause-none c = λ missing.
    wait_unread c.args.line.now c.first_piece.result.0.now (pieces_left 32 (option_copied c.first_piece.result.1)) c.first_piece.ensures.cut
    (c.in_ok-wait.ensures.none (ap is_some c.in_default.is)) (named_so c.first_piece.result.0.now c.as_slice.result.now c.if-eq.ensures c.as_slice.ensures)

pub returns-then-eq-clause-some : goal.returns-then-eq-clause-some
returns-then-eq-clause-some c =
    let name = c.first_piece.result.0.now in
    let ws = pieces_left 32 (option_copied c.first_piece.result.1) in
    let w = c.in-Some.wait in
    let wait : Wait = record { rows = w.rows; cols = w.cols; cross = w.cross.items; ends = record { inputs = w.wires.inputs; ends = w.wires.ends.items } } in
    let read = subst (λ o. IfSome o (λ v. wait_in ws ≡ Some (record { rows = v.rows; cols = v.cols; cross = v.cross.items; ends = record { inputs = v.wires.inputs; ends = v.wires.ends.items } })))
    c.in-Some.is c.in_ok-wait.ensures.some in
    ok_some_more c.wait_part.result (IsWaitPart wait) (IsPartLine c.args.line.now)
    (λ x p. wait_part_back c.args.line.now name ws wait x c.first_piece.ensures.cut (named_so name c.as_slice.result.now c.if-eq.ensures c.as_slice.ensures) read p)
    c.wait_part.ensures.some

pub returns-then-eq-clause-none : goal.returns-then-eq-clause-none
returns-then-eq-clause-none c =
    let name = c.first_piece.result.0.now in
    let ws = pieces_left 32 (option_copied c.first_piece.result.1) in
    let w = c.in-Some.wait in
    let wait : Wait = record { rows = w.rows; cols = w.cols; cross = w.cross.items; ends = record { inputs = w.wires.inputs; ends = w.wires.ends.items } } in
    let read = subst (λ o. IfSome o (λ v. wait_in ws ≡ Some (record { rows = v.rows; cols = v.cols; cross = v.cross.items; ends = record { inputs = v.wires.inputs; ends = v.wires.ends.items } })))
    c.in-Some.is c.in_ok-wait.ensures.some in
    ok_none_more c.wait_part.result (IsNoWaitPart wait) (IsNoPartLine c.args.line.now)
    (λ none. wait_none c.args.line.now name ws c.first_piece.ensures.cut wait read none (named_so name c.as_slice.result.now c.if-eq.ensures c.as_slice.ensures))
    c.wait_part.ensures.none

pub returns-in_default-2-clause-none : goal.returns-in_default-2-clause-none
returns-in_default-2-clause-none c = λ missing.
    plain_unread c.args.line.now c.first_piece.result.0.now (pieces_left 32 (option_copied c.first_piece.result.1)) c.first_piece.ensures.cut
    (c.in_ok-wires.ensures.none (ap is_some c.in_default-2.is)) (named_else c.first_piece.result.0.now c.as_slice.result.now c.if-eq.ensures c.as_slice.ensures)

pub returns-clause-some : goal.returns-clause-some
returns-clause-some c =
    let name = c.first_piece.result.0.now in
    let ws = pieces_left 32 (option_copied c.first_piece.result.1) in
    let w = c.in-Some-2.wires in
    let read = subst (λ o. IfSome o (λ v. ends_in ws ≡ Some (record { inputs = v.inputs; ends = v.ends.items }))) c.in-Some-2.is c.in_ok-wires.ensures.some in
    some_more c.plain_part.result (IsPlainPart name w.inputs w.ends.items) (IsPartLine c.args.line.now)
    (λ x p. plain_back c.args.line.now name ws w.inputs w.ends.items x c.first_piece.ensures.cut read p) c.plain_part.ensures.some

pub returns-clause-none : goal.returns-clause-none
returns-clause-none c = λ none.
    let name = c.first_piece.result.0.now in
    let ws = pieces_left 32 (option_copied c.first_piece.result.1) in
    let w = c.in-Some-2.wires in
    let read = subst (λ o. IfSome o (λ v. ends_in ws ≡ Some (record { inputs = v.inputs; ends = v.ends.items }))) c.in-Some-2.is c.in_ok-wires.ensures.some in
    plain_none c.args.line.now name ws c.first_piece.ensures.cut w.inputs w.ends.items read (c.plain_part.ensures.none none)
    (named_else name c.as_slice.result.now c.if-eq.ensures c.as_slice.ensures)
