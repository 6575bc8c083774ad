use Rattle.std.proofs.Common.{sym, ◌∙◌}
use Rattle.tree_walk.specs.Mirror.Table.{entry_of}
use Rattle.di_grammar.specs.Mirror.Twins.{firsts, burst_at}
use Rattle.di_grammar.proofs.Twinning.{told_some, told_none, told_new, told_twin}
use Rattle.di_grammar.proofs.twins.Search.found_with.Goals as goal

pub returns-then-is_some : goal.returns-then-is_some
returns-then-is_some c = λ bs entered told.
    told_some (firsts c.args.self.now.choice) bs (burst_at c.args.place c.args.marks.now) c.args.self.now.found (sym c.is_some.ensures ∙ c.if-is_some.true) told

pub returns-then-has_new : goal.returns-then-has_new
returns-then-has_new c = λ bs entered told.
    let all = firsts c.args.self.now.choice in
    told_new (entry_of c.args.self.now.entered) all bs (burst_at c.args.place c.args.marks.now) entered (c.has_new.ensures c.if-has_new.true)
    (told_none all bs c.args.self.now.found (sym c.is_some.ensures ∙ c.if-is_some.false) told)

pub returns : goal.returns
returns c = λ bs entered told.
    let all = firsts c.args.self.now.choice in
    told_twin all bs (burst_at c.args.place c.args.marks.now) _ c.twin.ensures (told_none all bs c.args.self.now.found (sym c.is_some.ensures ∙ c.if-is_some.false) told)
