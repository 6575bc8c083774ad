use Rattle.std.proofs.Common.{true≢false, sym, ◌∙◌}
use Rattle.di_grammar.specs.Mirror.Twins.{burst_at}
use Rattle.di_grammar.proofs.Twinning.{nearest_some, nearest_none, nearest_here, nearest_not}
use Rattle.di_grammar.proofs.twins.Equal.place_with.Goals as goal

pub returns-then-is_some : goal.returns-then-is_some
returns-then-is_some c = λ bs. nearest_some c.args.self.now.marks.now bs (burst_at c.args.place c.args.marks.now) c.args.self.now.place (sym c.is_some.ensures ∙ c.if-is_some.true)

pub returns-then-same_symbols : goal.returns-then-same_symbols
returns-then-same_symbols c = λ bs near.
    let ms = c.args.self.now.marks.now in
    nearest_here ms bs (burst_at c.args.place c.args.marks.now) (nearest_none ms bs c.args.self.now.place (sym c.is_some.ensures ∙ c.if-is_some.false) near)
    (c.same_symbols.ensures.0 c.if-same_symbols.true)

pub returns-else-same_symbols : goal.returns-else-same_symbols
returns-else-same_symbols c = λ bs near.
    let ms = c.args.self.now.marks.now in
    nearest_not ms bs (burst_at c.args.place c.args.marks.now) (nearest_none ms bs c.args.self.now.place (sym c.is_some.ensures ∙ c.if-is_some.false) near)
    (λ same. true≢false (sym (c.same_symbols.ensures.1 same) ∙ c.if-same_symbols.false))
