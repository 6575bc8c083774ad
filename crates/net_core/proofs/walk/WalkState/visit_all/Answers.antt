use Rattle.std.proofs.Common.{arith}
use Rattle.net_core.specs.Mirror.WalkStates.{walk_in}
use Rattle.net_core.proofs.WalkSteps.{leads_same, leads_step, leads_then}
use Rattle.net_core.proofs.walk.WalkState.visit_all.Goals as goal

pub loop-self-init : goal.loop-self-init
loop-self-init c = record {
  walks = c.requires.walks;
  leads = leads_same c.args.net.now (walk_in c.args.self.now);
}

pub loop-self-smaller : goal.loop-self-smaller
loop-self-smaller c = omega (arith, c.in_ok-visit_next.ensures.few, c.in_ok-visit_next.ensures.visited)

pub loop-self-preserved : goal.loop-self-preserved
loop-self-preserved c = record {
  walks = c.in_ok-visit_next.ensures.walks;
  leads = leads_then c.args.net.now (walk_in c.args.self.now) (walk_in c.loop-self.self) (walk_in c.visit_next.new.self) c.loop-self.invariant.leads
      (leads_step c.args.net.now (walk_in c.loop-self.self) (walk_in c.visit_next.new.self) c.in_ok-visit_next.ensures.step);
}
