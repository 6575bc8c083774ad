use Rattle.std.proofs.Common.{ap, ◌∙◌}
use Rattle.std.specs.Str.{bytes_eq}
use Rattle.indexmap.specs.IndexSet.{insert_key}
use Rattle.cmd_rename.proofs.SymbolNames.{names_more}
use Rattle.cmd_rename.proofs.names.symbol_names.Goals as goal

pub loop-symbol-preserved : goal.loop-symbol-preserved
loop-symbol-preserved c = names_more c.args.names.now c.args.symbols.now c.loop-symbol.symbol-index c.loop-symbol.set c.insert.new.self
    c.loop-symbol-test.true c.requires c.loop-symbol.invariant (c.in_ok-insert.ensures.names ∙ ap (insert_key bytes_eq c.loop-symbol.set) c.in_ok-name.ensures)
