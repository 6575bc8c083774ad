use Rattle.std.proofs.Common.{◌∷◌, ◌∙◌, ap}
use Rattle.std.specs.Option.{option_copied}
use Rattle.text_lines.specs.Pieces.{pieces_left}
use Rattle.net_text.proofs.NetLines.{line_back, last_back}
use Rattle.net_text.proofs.pieces.first_line.Goals as goal

pub returns-in-Some-clause-some : goal.returns-in-Some-clause-some
returns-in-Some-clause-some c =
    let line = c.first_piece.result.0.now in
    line_back c.args.text.now line c.in-Some.rest.now (c.first_piece.ensures.cut ∙ ap (λ o. line ∷ pieces_left 10 (option_copied o)) c.in-Some.is)

pub returns-in-None-clause-none : goal.returns-in-None-clause-none
returns-in-None-clause-none c = λ missing.
    let line = c.first_piece.result.0.now in
    last_back c.args.text.now line (c.first_piece.ensures.cut ∙ ap (λ o. line ∷ pieces_left 10 (option_copied o)) c.in-None.is)
