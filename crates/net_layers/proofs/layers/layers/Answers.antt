use Rattle.std.proofs.Common.{◌+◌, ◌-◌, take, drop, ◌∙◌, sym, ap, subst, arith, slice_get}
use Rattle.net_core.specs.Wiring.{Node, Circuit}
use Rattle.net_layers.specs.Mirror.Laid.{IsLaidFor, AreLaid}
use Rattle.net_layers.proofs.Layered.{laid_next, node_at}
use Rattle.net_layers.proofs.layers.layers.Goals as goal

pub loop-node-preserved : goal.loop-node-preserved
loop-node-preserved c = subst (AreLaid (take (c.loop-node.node + 1 - 1) (drop 1 c.args.net.now.nodes))) (sym c.in_ok-push.ensures.items)
    (laid_next c.args.net.now.nodes c.loop-node.node c.index.result.now c.loop-node.parts.items c.in_ok-part_layer.field-0 (omega arith)
    (ap (λ (w : Circuit). slice_get w.nodes c.loop-node.node) (sym c.net.view_is) ∙ node_at c.net.inside.nodes.items c.loop-node.node c.index.result.now (omega arith) c.index.ensures)
    c.loop-node.invariant
    (subst (λ (x : Node). IsLaidFor x.spec c.in_ok-part_layer.field-0) c.behind-net.view_is c.in_ok-part_layer.ensures))
