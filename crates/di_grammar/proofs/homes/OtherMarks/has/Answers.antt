use Rattle.di_grammar.proofs.Housing.{home_great}
use Rattle.di_grammar.proofs.homes.OtherMarks.has.Goals as goal

pub returns-then-symbol-ge-MAX_SYMBOLS : goal.returns-then-symbol-ge-MAX_SYMBOLS
returns-then-symbol-ge-MAX_SYMBOLS c = λ ss seen small. home_great c.args.symbol ss c.if-symbol-ge-MAX_SYMBOLS.true small

pub returns : goal.returns
returns c = λ ss seen small. (seen small).homes c.args.symbol c.if-symbol-ge-MAX_SYMBOLS.false
