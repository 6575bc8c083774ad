use Rattle.std.proofs.Common.{◌-◌}
use Rattle.net_core.specs.Mirror.Walking.{Leads}
use Rattle.net_core.specs.Mirror.WalkStates.{walk_in, Walks}
use Rattle.net_core.proofs.walk.WalkState.visit_all.Given as goal

abbrev pub invariant-loop-self : goal.invariant-loop-self
invariant-loop-self l = record {
  walks : Walks l.net l.self;
  leads : Leads l.net (walk_in l.fn.self) (walk_in l.self);
}

abbrev pub decreases-loop-self : goal.decreases-loop-self
decreases-loop-self l = l.net.wires - l.self.visited
