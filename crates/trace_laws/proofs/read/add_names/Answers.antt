use Rattle.std.proofs.Common.{◌≡◌, ◌∷◌, ◌∙◌, sym, ap, subst}
use Rattle.std.specs.Option.{option_copied}
use Rattle.std.proofs.lemmas.Result.{err_from_is_err_and}
use Rattle.trace_laws.specs.Mirror.Reading.{with_names, Tells}
use Rattle.text_lines.specs.Pieces.{pieces_left}
use Rattle.trace_laws.proofs.read.add_names.Goals as goal

pub returns-in_err-add_name-clause-err : goal.returns-in_err-add_name-clause-err
returns-in_err-add_name-clause-err c =
    let p = err_from_is_err_and c.from_residual.result c.from_residual.ensures.1 in
    let left = pieces_left 32 (option_copied c.first_piece.result.1) in
    let same : with_names c.args.line c.loop-rest.names (c.first_piece.result.0.now ∷ left) ≡ with_names c.args.line c.args.names.now (pieces_left 32 (option_copied c.args.text)) = sym (ap (with_names c.args.line c.loop-rest.names) (ap (λ r. pieces_left 32 (option_copied r)) c.in-Some.is ∙ c.first_piece.ensures.cut)) ∙ c.loop-rest.invariant.same in
    rw (p.1, p.2) (subst (λ r. Tells r c.in_err-add_name.field-0.0) same (c.in_err-add_name.ensures.err left))
