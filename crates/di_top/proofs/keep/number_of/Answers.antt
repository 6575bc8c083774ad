use Rattle.std.proofs.Common.{sym, ◌∙◌}
use Rattle.di_top.proofs.Keeping.{none_number}
use Rattle.di_top.proofs.keep.number_of.Goals as goal

pub returns-in-None : goal.returns-in-None
returns-in-None g c = sym (none_number (g.P.Probe.numbers c.args.probe.now) c.args.index (sym c.line.ensures ∙ c.in-None.is))
