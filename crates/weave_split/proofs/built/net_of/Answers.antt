use Rattle.std.proofs.Common.{◌≡◌, length, map, sym, ap, subst, ◌∙◌, arith}
use Rattle.std.specs.Prelude.{IfOk}
use Rattle.std.specs.List.{AllByRecursion}
use Rattle.net_core.specs.Wiring.{Circuit, IsWired, IsClosed}
use Rattle.net_core.proofs.Sizes.{nodes_few}
use Rattle.net_laws.specs.Charts.{charted}
use Rattle.weave_split.specs.WeaveChart.{weave_chart}
use Rattle.weave_split.specs.Mirror.TieTables.{ties_by, wire_of, spec_of}
use Rattle.weave_split.proofs.BuiltNodes.{whole_net}
use Rattle.weave_split.proofs.built.net_of.Goals as goal

pub of_nodes-requires-clause-few : goal.of_nodes-requires-clause-few
of_nodes-requires-clause-few c =
    let long : c.len.result ≡ length c.as_slice-2.result.now = omega (arith, c.len.ensures, c.as_slice-2.ensures.len, c.in_ok-lines.lines.ok) in
    let whole : ◌≡◌ {A = Circuit} (record { nodes = c.in_ok-nodes.nodes.items; wires = c.len.result }) (charted (weave_chart c.args.whole (spec_of c.args.specs.now) (ties_by c.args.tables.now))) =
    whole_net c.args.whole c.args.specs.now (ties_by c.args.tables.now) c.as_slice-3.result.now c.in_ok-parts.parts.items c.as_slice-2.result.now c.in_ok-nodes.nodes.items c.len.result
    c.as_slice-3.ensures.value c.in_ok-parts.ensures (ap (map wire_of) c.as_slice-2.ensures.value ∙ c.in_ok-lines.ensures) long (c.in_ok-nodes.ensures c.as_slice-2.result.now c.in_ok-places.ensures) in
    omega (
      arith,
      c.requires.few,
      ap (λ (d : Circuit). length d.nodes) whole,
      nodes_few (charted (weave_chart c.args.whole (spec_of c.args.specs.now) (ties_by c.args.tables.now))) c.requires.wired.wired c.requires.closed,
    )

pub of_nodes-requires-clause-wired : goal.of_nodes-requires-clause-wired
of_nodes-requires-clause-wired c =
    let long : c.len.result ≡ length c.as_slice-2.result.now = omega (arith, c.len.ensures, c.as_slice-2.ensures.len, c.in_ok-lines.lines.ok) in
    let whole : ◌≡◌ {A = Circuit} (record { nodes = c.in_ok-nodes.nodes.items; wires = c.len.result }) (charted (weave_chart c.args.whole (spec_of c.args.specs.now) (ties_by c.args.tables.now))) =
    whole_net c.args.whole c.args.specs.now (ties_by c.args.tables.now) c.as_slice-3.result.now c.in_ok-parts.parts.items c.as_slice-2.result.now c.in_ok-nodes.nodes.items c.len.result
    c.as_slice-3.ensures.value c.in_ok-parts.ensures (ap (map wire_of) c.as_slice-2.ensures.value ∙ c.in_ok-lines.ensures) long (c.in_ok-nodes.ensures c.as_slice-2.result.now c.in_ok-places.ensures) in
    subst (λ (d : Circuit). AllByRecursion (IsWired d.wires) d.nodes) (sym whole) c.requires.wired.wired

pub of_nodes-requires-clause-closed : goal.of_nodes-requires-clause-closed
of_nodes-requires-clause-closed c =
    let long : c.len.result ≡ length c.as_slice-2.result.now = omega (arith, c.len.ensures, c.as_slice-2.ensures.len, c.in_ok-lines.lines.ok) in
    let whole : ◌≡◌ {A = Circuit} (record { nodes = c.in_ok-nodes.nodes.items; wires = c.len.result }) (charted (weave_chart c.args.whole (spec_of c.args.specs.now) (ties_by c.args.tables.now))) =
    whole_net c.args.whole c.args.specs.now (ties_by c.args.tables.now) c.as_slice-3.result.now c.in_ok-parts.parts.items c.as_slice-2.result.now c.in_ok-nodes.nodes.items c.len.result
    c.as_slice-3.ensures.value c.in_ok-parts.ensures (ap (map wire_of) c.as_slice-2.ensures.value ∙ c.in_ok-lines.ensures) long (c.in_ok-nodes.ensures c.as_slice-2.result.now c.in_ok-places.ensures) in
    subst IsClosed (sym whole) c.requires.closed

pub returns : goal.returns
returns c =
    let long : c.len.result ≡ length c.as_slice-2.result.now = omega (arith, c.len.ensures, c.as_slice-2.ensures.len, c.in_ok-lines.lines.ok) in
    let whole : ◌≡◌ {A = Circuit} (record { nodes = c.in_ok-nodes.nodes.items; wires = c.len.result }) (charted (weave_chart c.args.whole (spec_of c.args.specs.now) (ties_by c.args.tables.now))) =
    whole_net c.args.whole c.args.specs.now (ties_by c.args.tables.now) c.as_slice-3.result.now c.in_ok-parts.parts.items c.as_slice-2.result.now c.in_ok-nodes.nodes.items c.len.result
    c.as_slice-3.ensures.value c.in_ok-parts.ensures (ap (map wire_of) c.as_slice-2.ensures.value ∙ c.in_ok-lines.ensures) long (c.in_ok-nodes.ensures c.as_slice-2.result.now c.in_ok-places.ensures) in
    subst (λ (d : Circuit). IfOk c.of_nodes.result (λ net. net ≡ d)) whole c.of_nodes.ensures
