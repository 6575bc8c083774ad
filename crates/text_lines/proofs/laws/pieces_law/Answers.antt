use Rattle.text_lines.proofs.Cuts.{clean_pieces, first_cut, words_cut, words_back}
use Rattle.text_lines.proofs.laws.pieces_law.Goals as goal

pub returns-clause-clean : goal.returns-clause-clean
returns-clause-clean c = clean_pieces

pub returns-clause-first : goal.returns-clause-first
returns-clause-first c = first_cut

pub returns-clause-words : goal.returns-clause-words
returns-clause-words c = words_cut

pub returns-clause-line : goal.returns-clause-line
returns-clause-line c = words_back
