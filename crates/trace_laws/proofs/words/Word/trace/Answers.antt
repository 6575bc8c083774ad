use Rattle.std.proofs.Common.{◌∙◌, ap, map}
use Rattle.trace_laws.specs.Listed.{numbers, symbol}
use Rattle.trace_laws.proofs.Rules.{numbers_of_symbols}
use Rattle.trace_laws.proofs.words.Word.trace.Goals as goal

pub returns : goal.returns
returns c = ap numbers (c.in_ok-trace.ensures ∙ ap (map symbol) c.symbols.ensures) ∙ numbers_of_symbols c.args.self.now
