use Rattle.std.proofs.Common.{◌≡◌, ◌∷◌, Ok, Bor, List, ℕ, ◌∙◌, sym, ap, subst}
use Rattle.std.specs.Option.{option_copied}
use Rattle.std.proofs.lemmas.Result.{err_from_is_err_and}
use Rattle.trace_laws.specs.Mirror.Reading.{and_then, with_header, headed, Tells}
use Rattle.text_lines.specs.Pieces.{pieces, pieces_left}
use Rattle.trace_laws.proofs.Turns.{headed_step, tells_then}
use Rattle.trace_laws.proofs.read.read_header.Goals as goal

pub returns-in_ok-read_words-in_default-Some-clause-ok : goal.returns-in_ok-read_words-in_default-Some-clause-ok
returns-in_ok-read_words-in_default-Some-clause-ok c =
    let cut : pieces 10 c.args.text.now ≡ c.first_piece.result.0.now ∷ pieces 10 c.in_default-Some.rest.now = c.first_piece.ensures.cut ∙ ap (λ r. c.first_piece.result.0.now ∷ pieces_left 10 (option_copied r)) c.in_default-Some.is-1 in
    let read : headed c.args.line c.args.word.now c.args.names.now (pieces 10 c.args.text.now) ≡ Ok (record { names = c.read_words.new.names; lines = pieces 10 c.in_default-Some.rest.now }) = ap (headed c.args.line c.args.word.now c.args.names.now) cut
    ∙ headed_step c.args.line c.args.word.now c.args.names.now c.first_piece.result.0.now c.in_default-Some.rest.now
    ∙ ap (λ r. and_then r (λ all. Ok (record { names = all; lines = pieces 10 c.in_default-Some.rest.now }))) c.in_ok-read_words-in_default-Some.ensures.ok in
    subst (λ (r : Bor (List ℕ)). headed c.args.line c.args.word.now c.args.names.now (pieces 10 c.args.text.now) ≡ Ok (record { names = c.read_words.new.names; lines = pieces 10 r.now })) (sym c.in_default-Some.rest-is) read

pub returns-in_err-read_words-in_default-Some-clause-err : goal.returns-in_err-read_words-in_default-Some-clause-err
returns-in_err-read_words-in_default-Some-clause-err c =
    let p = err_from_is_err_and c.from_residual.result c.from_residual.ensures.1 in
    let step = headed_step c.args.line c.args.word.now c.args.names.now c.first_piece.result.0.now c.in_default-Some.rest.now in
    let cut : pieces 10 c.args.text.now ≡ c.first_piece.result.0.now ∷ pieces 10 c.in_default-Some.rest.now = c.first_piece.ensures.cut ∙ ap (λ r. c.first_piece.result.0.now ∷ pieces_left 10 (option_copied r)) c.in_default-Some.is-1 in
    rw (p.1, p.2) (subst (λ r. Tells r c.in_err-read_words-in_default-Some.field-0.0) (sym step ∙ sym (ap (headed c.args.line c.args.word.now c.args.names.now) cut))
    (tells_then (with_header c.args.line c.args.word.now c.args.names.now (pieces 32 c.first_piece.result.0.now)) _ c.in_err-read_words-in_default-Some.field-0.0 c.in_err-read_words-in_default-Some.ensures.err))
