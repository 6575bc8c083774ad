use Rattle.std.proofs.Common.{◌≡◌, ◌-◌, ◌/◌, ℕ, sym, subst}
use Rattle.std.specs.Prelude.{IfOk}
use Rattle.std.specs.List.{AllByRecursion}
use Rattle.basic_kinds.specs.ShapeParts.{half}
use Rattle.net_core.specs.Wiring.{Circuit, IsWired, IsClosed}
use Rattle.fan_trees.specs.FanLayers.{gather_layer}
use Rattle.fan_trees.specs.Mirror.Gathers.{kind_of}
use Rattle.fan_trees.proofs.FanSplits.{half_is, takes_halves, same_net}
use Rattle.fan_trees.proofs.gather.layer.Goals as goal

pub of_nodes-requires-clause-wired : goal.of_nodes-requires-clause-wired
of_nodes-requires-clause-wired c =
    let n = c.args.inputs in
    let whole = same_net (λ (h : ℕ). gather_layer (kind_of c.args.kind) n h (n - h)) (n - n / 2) (half n) c.in_ok-nodes.nodes.items c.by_width-wires.result (half_is n) c.in_ok-nodes.ensures c.by_width-wires.ensures in
    subst (λ (d : Circuit). AllByRecursion (IsWired d.wires) d.nodes) (sym whole) (takes_halves c.args.kind n c.requires.wide c.requires.few).right.correct.network.wired

pub of_nodes-requires-clause-closed : goal.of_nodes-requires-clause-closed
of_nodes-requires-clause-closed c =
    let n = c.args.inputs in
    let whole = same_net (λ (h : ℕ). gather_layer (kind_of c.args.kind) n h (n - h)) (n - n / 2) (half n) c.in_ok-nodes.nodes.items c.by_width-wires.result (half_is n) c.in_ok-nodes.ensures c.by_width-wires.ensures in
    subst IsClosed (sym whole) (takes_halves c.args.kind n c.requires.wide c.requires.few).right.correct.closed

pub returns : goal.returns
returns c =
    let n = c.args.inputs in
    let whole = same_net (λ (h : ℕ). gather_layer (kind_of c.args.kind) n h (n - h)) (n - n / 2) (half n) c.in_ok-nodes.nodes.items c.by_width-wires.result (half_is n) c.in_ok-nodes.ensures c.by_width-wires.ensures in
    subst (λ (d : Circuit). IfOk c.of_nodes.result (λ net. net ≡ d)) whole c.of_nodes.ensures
