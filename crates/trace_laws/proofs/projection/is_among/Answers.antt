use Rattle.std.proofs.Common.{◌∙◌}
use Rattle.trace_laws.proofs.Projections.{among_is}
use Rattle.trace_laws.proofs.projection.is_among.Goals as goal

pub returns : goal.returns
returns c = c.is_any.ensures ∙ among_is c.args.sym.0 c.args.kept.now
