use Rattle.std.proofs.Common.{◌≡◌, ◌++◌, drop}
use Rattle.count_sum.specs.Mirror.Lists.{joined, listed}
use Rattle.count_sum.proofs.graphs.exits.Given as goal

abbrev pub invariant-loop-act : goal.invariant-loop-act
invariant-loop-act l = l.waits.items ++ joined (λ y. listed y.exit) (drop l.act-index l.acts) ≡ joined (λ y. listed y.exit) l.acts
