use Rattle.std.proofs.Common.{sym, ◌∙◌}
use Rattle.tree_walk.specs.Mirror.Table.{entry_of}
use Rattle.di_grammar.specs.Mirror.Uneven.{burst_of}
use Rattle.di_grammar.proofs.OverlapSteps.{knows_met, knows_some, knows_not}
use Rattle.di_grammar.proofs.overlaps.InputBursts.meet.Goals as goal

pub returns-then-is_some : goal.returns-then-is_some
returns-then-is_some c = λ bs sound known.
    knows_some bs (burst_of c.args.place c.args.marks.now) (entry_of c.args.self.now.firsts.places) (entry_of c.args.self.now.firsts.sizes) c.args.self.now.found
    (sym c.is_some.ensures ∙ c.if-is_some.true) sound known

pub returns : goal.returns
returns c = λ bs sound known.
    let b = burst_of c.args.place c.args.marks.now in
    let old = knows_not bs (entry_of c.args.self.now.firsts.places) (entry_of c.args.self.now.firsts.sizes) c.args.self.now.found (sym c.is_some.ensures ∙ c.if-is_some.false) known in
    knows_met bs b (entry_of c.meet-self.new.self.places) (entry_of c.meet-self.new.self.sizes) c.meet-self.result old.0 (c.meet-self.ensures bs sound old.0 old.1)
