use Rattle.std.proofs.Common.{sym}
use Rattle.text_lines.proofs.Cuts.{cut_found, cut_none}
use Rattle.text_lines.proofs.pieces.first_piece.Goals as goal

pub returns-in-Some-clause-cut : goal.returns-in-Some-clause-cut
returns-in-Some-clause-cut c = cut_found c.args.separator c.args.text.now c.in-Some.at (sym c.in-Some.ensures)

pub returns-in-None-clause-cut : goal.returns-in-None-clause-cut
returns-in-None-clause-cut c = cut_none c.args.separator c.args.text.now (sym c.in-None.ensures)
