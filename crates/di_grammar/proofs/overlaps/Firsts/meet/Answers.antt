use Rattle.std.proofs.Common.{true≢false, sym, ◌∙◌}
use Rattle.tree_walk.specs.Mirror.Table.{entry_of}
use Rattle.di_grammar.specs.Mirror.Uneven.{burst_of}
use Rattle.di_grammar.proofs.OverlapSteps.{met_none, met_same, met_other}
use Rattle.di_grammar.proofs.overlaps.Firsts.meet.Goals as goal

pub returns-then-low-eq0 : goal.returns-then-low-eq0
returns-then-low-eq0 c = λ bs sound apart stood.
    met_none bs (burst_of c.args.place c.args.marks.now) sound (entry_of c.args.self.now.places) (entry_of c.args.self.now.sizes) stood c.lowest-low.result
    (entry_of c.enter.new.self.places) (entry_of c.enter.new.self.sizes) c.if-low-eq0.true c.lowest-low.ensures (c.enter.ensures.places sound.small) (c.enter.ensures.sizes sound.small)

pub returns-then-stood_at : goal.returns-then-stood_at
returns-then-stood_at c = λ bs sound apart stood.
    met_same bs (burst_of c.args.place c.args.marks.now) sound (entry_of c.args.self.now.places) (entry_of c.args.self.now.sizes) stood c.lowest-low.result
    c.if-low-eq0.false c.lowest-low.ensures apart (c.stood_at.ensures.0 c.if-stood_at.true)

pub returns : goal.returns
returns c = λ bs sound apart stood.
    met_other bs (burst_of c.args.place c.args.marks.now) sound (entry_of c.args.self.now.places) (entry_of c.args.self.now.sizes) stood c.lowest-low.result
    c.if-low-eq0.false c.lowest-low.ensures (λ all. true≢false (sym (c.stood_at.ensures.1 all) ∙ c.if-stood_at.false))
