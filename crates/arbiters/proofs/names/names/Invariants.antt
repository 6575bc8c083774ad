use Rattle.std.proofs.Common.{◌≡◌}
use Rattle.arbiters.specs.Arbiter.{arbiter_names}
use Rattle.arbiters.proofs.names.names.Given as goal

abbrev pub invariant-loop-index : goal.invariant-loop-index
invariant-loop-index l = l.names ≡ arbiter_names l.index
