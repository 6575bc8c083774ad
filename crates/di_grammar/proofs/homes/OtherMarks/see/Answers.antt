use Rattle.std.proofs.Common.{arith}
use Rattle.di_grammar.proofs.Housing.{home_enters}
use Rattle.di_grammar.proofs.Seeing.{small_now}
use Rattle.di_grammar.proofs.homes.OtherMarks.see.Goals as goal

pub returns-then-symbol-lt-MAX_SYMBOLS : goal.returns-then-symbol-lt-MAX_SYMBOLS
returns-then-symbol-lt-MAX_SYMBOLS c = λ ss seen. home_enters c.args.self.now.stands ss c.args.spot seen

pub returns-else-symbol-lt-MAX_SYMBOLS : goal.returns-else-symbol-lt-MAX_SYMBOLS
returns-else-symbol-lt-MAX_SYMBOLS c = λ ss seen small. absurd (omega (arith, (small_now ss c.args.spot small).1, c.if-symbol-lt-MAX_SYMBOLS.false))
