use Rattle.std.proofs.Common.{◌≡◌, ◌-◌, ◌/◌, ℕ, sym, subst}
use Rattle.std.specs.Prelude.{IfOk}
use Rattle.std.specs.List.{AllByRecursion}
use Rattle.basic_kinds.specs.ShapeParts.{half}
use Rattle.net_core.specs.Wiring.{Circuit, IsWired, IsClosed}
use Rattle.fan_trees.specs.FanLayers.{fork_layer}
use Rattle.fan_trees.proofs.FanSplits.{half_is, fork_halves, same_net}
use Rattle.fan_trees.proofs.fork.layer.Goals as goal

pub of_nodes-requires-clause-wired : goal.of_nodes-requires-clause-wired
of_nodes-requires-clause-wired c =
    let n = c.args.outputs in
    let whole = same_net (λ (h : ℕ). fork_layer n h (n - h)) (n - n / 2) (half n) c.in_ok-nodes.nodes.items c.by_width-wires.result (half_is n) c.in_ok-nodes.ensures c.by_width-wires.ensures in
    subst (λ (d : Circuit). AllByRecursion (IsWired d.wires) d.nodes) (sym whole) (fork_halves n c.requires.wide c.requires.few).right.correct.network.wired

pub of_nodes-requires-clause-closed : goal.of_nodes-requires-clause-closed
of_nodes-requires-clause-closed c =
    let n = c.args.outputs in
    let whole = same_net (λ (h : ℕ). fork_layer n h (n - h)) (n - n / 2) (half n) c.in_ok-nodes.nodes.items c.by_width-wires.result (half_is n) c.in_ok-nodes.ensures c.by_width-wires.ensures in
    subst IsClosed (sym whole) (fork_halves n c.requires.wide c.requires.few).right.correct.closed

pub returns : goal.returns
returns c =
    let n = c.args.outputs in
    let whole = same_net (λ (h : ℕ). fork_layer n h (n - h)) (n - n / 2) (half n) c.in_ok-nodes.nodes.items c.by_width-wires.result (half_is n) c.in_ok-nodes.ensures c.by_width-wires.ensures in
    subst (λ (d : Circuit). IfOk c.of_nodes.result (λ net. net ≡ d)) whole c.of_nodes.ensures
