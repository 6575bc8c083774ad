use Rattle.di_grammar.proofs.Lists.{within_at}
use Rattle.std.proofs.Common.{sym, ◌∙◌}
use Rattle.di_grammar.proofs.symbols.has_new.Goals as goal

pub returns-then-of-eq0 : goal.returns-then-of-eq0
returns-then-of-eq0 c = λ t. record {
  mark = _;
  within = within_at c.args.marks.now c.loop-mark.mark-index _ c.loop-mark-test.true;
  small = c.if-mark-lt-MAX_SYMBOLS.true;
  new = sym c.of.ensures ∙ c.if-of-eq0.true;
}
