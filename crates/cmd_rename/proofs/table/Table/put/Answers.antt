use Rattle.std.proofs.Common.{◌∙◌, ap, refl, arith}
use Rattle.cmd_rename.specs.Table.{entry}
use Rattle.cmd_rename.proofs.Entries.{set_here, set_other, shown_here, old_set}
use Rattle.cmd_rename.proofs.table.Table.put.Goals as goal

pub returns-clause-here : goal.returns-clause-here
returns-clause-here c =
    set_here c.self.inside.round c.grow.new.entries.items c.args.symbol (record { round = c.self.inside.round; number = c.args.number }) c.in_ok-grow.ensures.room
    ∙ shown_here c.self.inside.round (record { round = c.self.inside.round; number = c.args.number }) refl

pub returns-clause-others : goal.returns-clause-others
returns-clause-others c = λ a h.
    set_other c.self.inside.round c.grow.new.entries.items c.args.symbol (record { round = c.self.inside.round; number = c.args.number }) a h
    ∙ c.in_ok-grow.ensures.same c.self.inside.round a c.self.invariant.0 ∙ ap (λ u. entry u a) c.self.view_is

pub invariant_of-self : goal.invariant_of-self
invariant_of-self c = (c.self.invariant.0, c.in_err-grow.ensures.old c.self.inside.round c.self.invariant.1)

pub invariant_of-self-2 : goal.invariant_of-self-2
invariant_of-self-2 c = (
  c.self.invariant.0,
  old_set c.self.inside.round c.grow.new.entries.items c.args.symbol (record { round = c.self.inside.round; number = c.args.number }) (omega arith) (c.in_ok-grow.ensures.old c.self.inside.round c.self.invariant.1),
)
