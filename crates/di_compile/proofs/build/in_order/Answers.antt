use Rattle.std.proofs.Common.{ap}
use Rattle.net_core.specs.Wiring.{Circuit}
use Rattle.net_core.specs.Walk.{walk}
use Rattle.di_compile.proofs.build.in_order.Goals as goal

pub returns-in-Ok : goal.returns-in-Ok
unfolding walk
returns-in-Ok c = record {
  in_order = c.in-Ok.ensures.in_order;
  preserved = c.in-Ok.ensures.preserved;
  wires = ap (λ (n : Circuit). n.wires) c.in-Ok.ensures.ok;
  outside = c.in-Ok.ensures.outside;
}
