use Rattle.std.proofs.Common.{◌∙◌, arith}
use Rattle.trace_laws.proofs.Naming.{kept_name}
use Rattle.trace_laws.proofs.read.symbol.Goals as goal

pub returns-then-place-count-clause-same : goal.returns-then-place-count-clause-same
returns-then-place-count-clause-same c = c.in_ok-place.ensures.names ∙ kept_name c.args.word.now c.args.names.now (omega (arith, c.in_ok-place.ensures.index))
