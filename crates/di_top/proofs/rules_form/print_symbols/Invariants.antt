use Rattle.std.proofs.Common.{◌≡◌, drop}
use Rattle.std.specs.Prelude.{flat_map}
use Rattle.di_io.specs.Printing.{prints}
use Rattle.di_top.specs.RulesForm.{symbol_text}
use Rattle.di_top.proofs.rules_form.print_symbols.Given as goal

-- the rest is still to be printed
abbrev pub invariant-loop-symbol : goal.invariant-loop-symbol
invariant-loop-symbol g l =
    prints l.printer (flat_map (symbol_text l.names) (drop l.symbol-index l.symbols))
    ≡ prints l.initial.printer (flat_map (symbol_text l.names) l.symbols)
