use Rattle.std.proofs.Common.{◌≡◌, length, sym, ap, subst, ◌∙◌, arith}
use Rattle.std.specs.Prelude.{IfOk}
use Rattle.std.specs.List.{AllByRecursion}
use Rattle.basic_kinds.specs.declared.kind.Kind.TheVariants.{Dw}
use Rattle.net_core.specs.Wiring.{Circuit, IsWired, IsClosed}
use Rattle.net_core.proofs.Sizes.{nodes_few}
use Rattle.shape_parts.specs.Cut.{parts_of}
use Rattle.two_way.specs.Layers.{IsLayerOf}
use Rattle.wait_parts.specs.PartsNet.{parts_circuit}
use Rattle.wait_parts.specs.Mirror.Known.{IsKnown}
use Rattle.wait_parts.proofs.NodeSteps.{known_parts, net_made, result_is}
use Rattle.wait_parts.proofs.PartsLayer.{parts_layer}
use Rattle.wait_parts.proofs.nodes.parts_net.Goals as goal

pub inner_nodes-requires-clause-known : goal.inner_nodes-requires-clause-known
inner_nodes-requires-clause-known c =
    subst (AllByRecursion (IsKnown c.args.shape.now)) (sym (c.as_slice-2.ensures.value ∙ c.in_ok-found.ensures ∙ ap (parts_of c.args.shape.now.rows c.args.shape.now.cols) c.as_slice.ensures)) (known_parts c.args.shape.now)

pub of_nodes-requires-clause-few : goal.of_nodes-requires-clause-few
of_nodes-requires-clause-few c =
    let s = c.args.shape.now in
    let whole = net_made s c.in_ok-insert.ensures.items c.in_ok-outside.ensures c.in_ok-nodes.ensures (c.as_slice-2.ensures.value ∙ c.in_ok-found.ensures ∙ ap (parts_of s.rows s.cols) c.as_slice.ensures) c.len.ensures in
    let right = (parts_layer s c.requires.cut c.requires.formed).right.correct in
    omega (arith, c.requires.formed.few, ap (λ (d : Circuit). length d.nodes) whole, nodes_few (parts_circuit s) right.network.wired right.closed)

pub of_nodes-requires-clause-wired : goal.of_nodes-requires-clause-wired
of_nodes-requires-clause-wired c =
    let s = c.args.shape.now in
    let whole = net_made s c.in_ok-insert.ensures.items c.in_ok-outside.ensures c.in_ok-nodes.ensures (c.as_slice-2.ensures.value ∙ c.in_ok-found.ensures ∙ ap (parts_of s.rows s.cols) c.as_slice.ensures) c.len.ensures in
    subst (λ (d : Circuit). AllByRecursion (IsWired d.wires) d.nodes) (sym whole) (parts_layer s c.requires.cut c.requires.formed).right.correct.network.wired

pub of_nodes-requires-clause-closed : goal.of_nodes-requires-clause-closed
of_nodes-requires-clause-closed c =
    let s = c.args.shape.now in
    let whole = net_made s c.in_ok-insert.ensures.items c.in_ok-outside.ensures c.in_ok-nodes.ensures (c.as_slice-2.ensures.value ∙ c.in_ok-found.ensures ∙ ap (parts_of s.rows s.cols) c.as_slice.ensures) c.len.ensures in
    subst IsClosed (sym whole) (parts_layer s c.requires.cut c.requires.formed).right.correct.closed

pub returns-clause-layer : goal.returns-clause-layer
returns-clause-layer c =
    let s = c.args.shape.now in
    let whole = net_made s c.in_ok-insert.ensures.items c.in_ok-outside.ensures c.in_ok-nodes.ensures (c.as_slice-2.ensures.value ∙ c.in_ok-found.ensures ∙ ap (parts_of s.rows s.cols) c.as_slice.ensures) c.len.ensures in
    result_is (IsLayerOf (Dw s)) c.of_nodes.result (parts_circuit s) (parts_layer s c.requires.cut c.requires.formed) (subst (λ (d : Circuit). IfOk c.of_nodes.result (λ net. net ≡ d)) whole c.of_nodes.ensures)

pub returns-clause-net : goal.returns-clause-net
returns-clause-net c =
    let s = c.args.shape.now in
    let whole = net_made s c.in_ok-insert.ensures.items c.in_ok-outside.ensures c.in_ok-nodes.ensures (c.as_slice-2.ensures.value ∙ c.in_ok-found.ensures ∙ ap (parts_of s.rows s.cols) c.as_slice.ensures) c.len.ensures in
    subst (λ (d : Circuit). IfOk c.of_nodes.result (λ net. net ≡ d)) whole c.of_nodes.ensures
