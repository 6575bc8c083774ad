use Rattle.std.proofs.Common.{◌≡◌, drop}
use Rattle.cmd_expand.specs.Names.{with_factors}
use Rattle.cmd_expand.proofs.names.add_factors.Given as goal

abbrev pub invariant-loop-factor : goal.invariant-loop-factor
invariant-loop-factor l = with_factors l.names (drop l.factor-index l.factors) ≡ with_factors l.initial.names l.factors
