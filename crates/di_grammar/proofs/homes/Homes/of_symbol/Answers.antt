use Rattle.std.proofs.Common.{true, false, sym}
use Rattle.di_grammar.specs.Mirror.Homes.{kind_spots}
use Rattle.di_grammar.proofs.HousingKinds.{small_kinds}
use Rattle.di_grammar.proofs.HousingBreaks.{one_elsewhere, none_broken, one_homeless}
use Rattle.di_grammar.proofs.homes.Homes.of_symbol.Goals as goal

pub returns-in-Some : goal.returns-in-Some
returns-in-Some c = λ ps small known.
    one_elsewhere ps c.args.number c.args.place c.args.symbol c.in-Some.other (sym (c.in-Some.ensures (kind_spots true 1 ps) known.grants (small_kinds true ps small)))

pub returns-then-has : goal.returns-then-has
returns-then-has c = λ ps small known.
    none_broken ps c.args.number c.args.place c.args.symbol (sym (c.in-None.ensures (kind_spots true 1 ps) known.grants (small_kinds true ps small)))
    (sym (c.if-has.ensures (kind_spots false 1 ps) known.homes (small_kinds false ps small)))

pub returns-else-has : goal.returns-else-has
returns-else-has c = λ ps small known.
    one_homeless ps c.args.number c.args.place c.args.symbol (sym (c.in-None.ensures (kind_spots true 1 ps) known.grants (small_kinds true ps small)))
    (sym (c.if-has.ensures (kind_spots false 1 ps) known.homes (small_kinds false ps small)))
