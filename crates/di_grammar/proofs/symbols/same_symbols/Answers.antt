use Rattle.di_grammar.proofs.SymbolSets.{same_then, same_else}
use Rattle.di_grammar.proofs.symbols.same_symbols.Goals as goal

pub returns-then-are_of : goal.returns-then-are_of
returns-then-are_of c = same_then c.args.marks.now c.args.others.now c.are_of.result _ c.are_of.ensures c.if-are_of.true c.are_of-then-are_of.ensures

pub returns-else-are_of : goal.returns-else-are_of
returns-else-are_of c = same_else c.args.marks.now c.args.others.now c.are_of.result c.are_of.ensures c.if-are_of.false
