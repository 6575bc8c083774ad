use Rattle.std.proofs.Common.{◌∷◌, sym, ◌∙◌, ap}
use Rattle.std.specs.Option.{option_copied}
use Rattle.text_lines.specs.Pieces.{pieces_left}
use Rattle.net_text.proofs.Crossings.{crossing_long}
use Rattle.net_text.proofs.wait.read_crossing.Goals as goal

pub returns-in-Some : goal.returns-in-Some
returns-in-Some c =
    let row = c.first_piece.result.0.now in
    let col = c.first_piece-2.result.0.now in
    sym (crossing_long c.args.word.now c.in_ok-behind.field-0.now c.in-Some._more.now row col
    (c.first_piece.ensures.cut ∙ ap (λ o. row ∷ pieces_left 46 (option_copied o)) c.in_ok-behind.was)
    (c.first_piece-2.ensures.cut ∙ ap (λ o. col ∷ pieces_left 46 (option_copied o)) c.in-Some.is))
