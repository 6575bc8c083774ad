use Rattle.std.proofs.Common.{◌≡◌, length, sym, ap, subst, ◌∙◌, arith}
use Rattle.std.specs.Prelude.{IfOk}
use Rattle.std.specs.List.{AllByRecursion}
use Rattle.net_core.specs.declared.spec.NodeSpec.TheVariants.{Cmd}
use Rattle.net_core.specs.Wiring.{Circuit, IsWired, IsClosed}
use Rattle.net_core.proofs.Sizes.{nodes_few}
use Rattle.net_laws.specs.Charts.{charted}
use Rattle.plain_split.specs.OneWait.{one_chart}
use Rattle.plain_split.specs.Mirror.OneWaitTables.{links_by}
use Rattle.plain_split.proofs.OneWaitBuilt.{whole_net}
use Rattle.plain_split.proofs.one_wait_net.net_of.Goals as goal

pub of_nodes-requires-clause-few : goal.of_nodes-requires-clause-few
of_nodes-requires-clause-few c =
    let long : c.len.result ≡ length c.in_ok-wires.wires.items = omega (arith, c.len.ensures, c.as_slice-2.ensures.len, ap length c.as_slice-2.ensures.value) in
    let whole : ◌≡◌ {A = Circuit} (record { nodes = c.in_ok-nodes.nodes.items; wires = c.len.result }) (charted (one_chart (Cmd c.args.spec) (links_by c.args.tables.now))) =
    whole_net (Cmd c.args.spec) (links_by c.args.tables.now) c.as_slice-3.result.now c.in_ok-parts.parts.items c.in_ok-lines.lines c.in_ok-wires.wires.items c.in_ok-nodes.nodes.items c.len.result
    c.as_slice-3.ensures.value c.in_ok-parts.ensures (c.in_ok-lines.ensures ∙ c.as_slice-2.ensures.value) c.in_ok-wires.ensures long c.in_ok-nodes.ensures in
    omega (
      arith,
      c.requires.few,
      ap (λ (d : Circuit). length d.nodes) whole,
      nodes_few (charted (one_chart (Cmd c.args.spec) (links_by c.args.tables.now))) c.requires.right.correct.network.wired c.requires.right.correct.closed,
    )

pub of_nodes-requires-clause-wired : goal.of_nodes-requires-clause-wired
of_nodes-requires-clause-wired c =
    let long : c.len.result ≡ length c.in_ok-wires.wires.items = omega (arith, c.len.ensures, c.as_slice-2.ensures.len, ap length c.as_slice-2.ensures.value) in
    let whole : ◌≡◌ {A = Circuit} (record { nodes = c.in_ok-nodes.nodes.items; wires = c.len.result }) (charted (one_chart (Cmd c.args.spec) (links_by c.args.tables.now))) =
    whole_net (Cmd c.args.spec) (links_by c.args.tables.now) c.as_slice-3.result.now c.in_ok-parts.parts.items c.in_ok-lines.lines c.in_ok-wires.wires.items c.in_ok-nodes.nodes.items c.len.result
    c.as_slice-3.ensures.value c.in_ok-parts.ensures (c.in_ok-lines.ensures ∙ c.as_slice-2.ensures.value) c.in_ok-wires.ensures long c.in_ok-nodes.ensures in
    subst (λ (d : Circuit). AllByRecursion (IsWired d.wires) d.nodes) (sym whole) c.requires.right.correct.network.wired

pub of_nodes-requires-clause-closed : goal.of_nodes-requires-clause-closed
of_nodes-requires-clause-closed c =
    let long : c.len.result ≡ length c.in_ok-wires.wires.items = omega (arith, c.len.ensures, c.as_slice-2.ensures.len, ap length c.as_slice-2.ensures.value) in
    let whole : ◌≡◌ {A = Circuit} (record { nodes = c.in_ok-nodes.nodes.items; wires = c.len.result }) (charted (one_chart (Cmd c.args.spec) (links_by c.args.tables.now))) =
    whole_net (Cmd c.args.spec) (links_by c.args.tables.now) c.as_slice-3.result.now c.in_ok-parts.parts.items c.in_ok-lines.lines c.in_ok-wires.wires.items c.in_ok-nodes.nodes.items c.len.result
    c.as_slice-3.ensures.value c.in_ok-parts.ensures (c.in_ok-lines.ensures ∙ c.as_slice-2.ensures.value) c.in_ok-wires.ensures long c.in_ok-nodes.ensures in
    subst IsClosed (sym whole) c.requires.right.correct.closed

pub returns : goal.returns
returns c =
    let long : c.len.result ≡ length c.in_ok-wires.wires.items = omega (arith, c.len.ensures, c.as_slice-2.ensures.len, ap length c.as_slice-2.ensures.value) in
    let whole : ◌≡◌ {A = Circuit} (record { nodes = c.in_ok-nodes.nodes.items; wires = c.len.result }) (charted (one_chart (Cmd c.args.spec) (links_by c.args.tables.now))) =
    whole_net (Cmd c.args.spec) (links_by c.args.tables.now) c.as_slice-3.result.now c.in_ok-parts.parts.items c.in_ok-lines.lines c.in_ok-wires.wires.items c.in_ok-nodes.nodes.items c.len.result
    c.as_slice-3.ensures.value c.in_ok-parts.ensures (c.in_ok-lines.ensures ∙ c.as_slice-2.ensures.value) c.in_ok-wires.ensures long c.in_ok-nodes.ensures in
    subst (λ (d : Circuit). IfOk c.of_nodes.result (λ net. net ≡ d)) whole c.of_nodes.ensures
