use Rattle.di_grammar.proofs.Housing.{elsewhere_great, elsewhere_none, elsewhere_first, elsewhere_second}
use Rattle.di_grammar.proofs.homes.GrantMarks.elsewhere.Goals as goal

pub returns-then-symbol-ge-MAX_SYMBOLS : goal.returns-then-symbol-ge-MAX_SYMBOLS
returns-then-symbol-ge-MAX_SYMBOLS c = λ ss seen small. elsewhere_great c.args.symbol c.args.number ss c.if-symbol-ge-MAX_SYMBOLS.true small

pub returns-in-None : goal.returns-in-None
returns-in-None c = λ ss seen small.
    elsewhere_none c.args.self.now.first c.args.self.now.second ss c.args.symbol c.args.number c.if-symbol-ge-MAX_SYMBOLS.false c.in-None.is seen small

pub returns-then-known-number : goal.returns-then-known-number
returns-then-known-number c = λ ss seen small.
    elsewhere_second c.args.self.now.first c.args.self.now.second ss c.args.symbol c.args.number c.in-Some.known c.if-symbol-ge-MAX_SYMBOLS.false c.in-Some.is
    c.if-known-number.true seen small

pub returns-else-known-number : goal.returns-else-known-number
returns-else-known-number c = λ ss seen small.
    elsewhere_first c.args.self.now.first c.args.self.now.second ss c.args.symbol c.args.number c.in-Some.known c.if-symbol-ge-MAX_SYMBOLS.false c.in-Some.is
    c.if-known-number.false seen small
