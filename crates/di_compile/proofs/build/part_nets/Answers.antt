use Rattle.std.proofs.Common.{◌+◌, ◌-◌, take, drop, ◌∙◌, sym, ap, subst, arith, slice_get}
use Rattle.net_core.specs.Wiring.{Node, Circuit}
use Rattle.di_compile.specs.Mirror.InPlaces.{IsInPlace, AreInPlaces}
use Rattle.di_compile.proofs.Placed.{placed_next, node_at}
use Rattle.di_compile.proofs.build.part_nets.Goals as goal

pub loop-node-preserved : goal.loop-node-preserved
loop-node-preserved c = subst (AreInPlaces (take (c.loop-node.node + 1 - 1) (drop 1 c.args.weave.now.nodes))) (sym c.in_ok-push.ensures.items) (placed_next c.args.weave.now.nodes c.loop-node.node c.index.result.now c.loop-node.parts.items c.in_ok-part_net.field-0 (omega arith)
    (ap (λ (w : Circuit). slice_get w.nodes c.loop-node.node) (sym c.weave.view_is) ∙ node_at c.weave.inside.nodes.items c.loop-node.node c.index.result.now (omega arith) c.index.ensures)
    c.loop-node.invariant
    (subst (λ (x : Node). IsInPlace x.spec c.in_ok-part_net.field-0) c.behind-weave.view_is c.in_ok-part_net.ensures))
