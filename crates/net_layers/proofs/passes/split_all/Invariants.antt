use Rattle.substitute.specs.Splices.{specs_in}
use Rattle.net_layers.specs.TwoWayNets.{IsSplittable, IsSplitTo}
use Rattle.net_layers.specs.Mirror.Laid.{heaviest}
use Rattle.net_layers.proofs.passes.split_all.Given as goal

abbrev pub invariant-loop-whole : goal.invariant-loop-whole
invariant-loop-whole l = IsSplittable l.whole × IsSplitTo l.fn.net l.whole

abbrev pub decreases-loop-whole : goal.decreases-loop-whole
decreases-loop-whole l = heaviest (specs_in l.whole)
