use Rattle.std.proofs.Common.{ℕ, ◌≡◌, ◌<◌, length, sym, ap, ◌∙◌, subst, arith}
use Rattle.std.specs.List.{AllByRecursion}
use Rattle.std.proofs.lemmas.Result.{IfOk-weaker}
use Rattle.net_core.specs.Walk.{walk}
use Rattle.net_core.specs.Wiring.{Circuit, IsWired, IsClosed}
use Rattle.net_core.proofs.WalkOrder.{walk_many, walk_as, walk_preserved}
use Rattle.net_core.proofs.ordered.ordered.Goals as goal

pub of_nodes-requires-clause-some : goal.of_nodes-requires-clause-some
of_nodes-requires-clause-some c =
    let net = c.args.net.now in
    let fit : AllByRecursion (IsWired net.wires) net.nodes = subst (λ (d : Circuit). AllByRecursion (IsWired d.wires) d.nodes) c.net.view_is c.net.invariant.fit in
    let some : 0 < length net.nodes = subst (λ (d : Circuit). 0 < length d.nodes) c.net.view_is c.net.invariant.some in
    let wires : c.net.inside.wires ≡ net.wires = ap (λ (d : Circuit). d.wires) c.net.view_is in
    let is = walk_as net c.in_ok-nodes.nodes.items c.in_ok-nodes.ensures in
    omega (arith, walk_many net fit c.requires some, ap (λ (d : Circuit). length d.nodes) is)

pub of_nodes-requires-clause-few : goal.of_nodes-requires-clause-few
of_nodes-requires-clause-few c =
    let net = c.args.net.now in
    let fit : AllByRecursion (IsWired net.wires) net.nodes = subst (λ (d : Circuit). AllByRecursion (IsWired d.wires) d.nodes) c.net.view_is c.net.invariant.fit in
    let some : 0 < length net.nodes = subst (λ (d : Circuit). 0 < length d.nodes) c.net.view_is c.net.invariant.some in
    let wires : c.net.inside.wires ≡ net.wires = ap (λ (d : Circuit). d.wires) c.net.view_is in
    let is = walk_as net c.in_ok-nodes.nodes.items c.in_ok-nodes.ensures in
    omega (arith, walk_many net fit c.requires some, ap (λ (d : Circuit). length d.nodes) is, c.net.invariant.few, ap (λ (d : Circuit). length d.nodes) c.net.view_is)

pub of_nodes-requires-clause-wired : goal.of_nodes-requires-clause-wired
of_nodes-requires-clause-wired c =
    let net = c.args.net.now in
    let fit : AllByRecursion (IsWired net.wires) net.nodes = subst (λ (d : Circuit). AllByRecursion (IsWired d.wires) d.nodes) c.net.view_is c.net.invariant.fit in
    let some : 0 < length net.nodes = subst (λ (d : Circuit). 0 < length d.nodes) c.net.view_is c.net.invariant.some in
    let wires : c.net.inside.wires ≡ net.wires = ap (λ (d : Circuit). d.wires) c.net.view_is in
    let is = walk_as net c.in_ok-nodes.nodes.items c.in_ok-nodes.ensures in
    subst (λ (k : ℕ). AllByRecursion (IsWired k) c.in_ok-nodes.nodes.items) (sym wires)
    (subst (λ (d : Circuit). AllByRecursion (IsWired d.wires) d.nodes) is ((walk_preserved net (record { some = some; wired = fit }) c.requires).network.wired))

pub of_nodes-requires-clause-closed : goal.of_nodes-requires-clause-closed
of_nodes-requires-clause-closed c =
    let net = c.args.net.now in
    let fit : AllByRecursion (IsWired net.wires) net.nodes = subst (λ (d : Circuit). AllByRecursion (IsWired d.wires) d.nodes) c.net.view_is c.net.invariant.fit in
    let some : 0 < length net.nodes = subst (λ (d : Circuit). 0 < length d.nodes) c.net.view_is c.net.invariant.some in
    let wires : c.net.inside.wires ≡ net.wires = ap (λ (d : Circuit). d.wires) c.net.view_is in
    let is = walk_as net c.in_ok-nodes.nodes.items c.in_ok-nodes.ensures in
    subst (λ (k : ℕ). IsClosed (record { nodes = c.in_ok-nodes.nodes.items; wires = k })) (sym wires)
    (subst IsClosed is ((walk_preserved net (record { some = some; wired = fit }) c.requires).closed))

pub returns : goal.returns
returns c =
    let net = c.args.net.now in
    let wires : c.net.inside.wires ≡ net.wires = ap (λ (d : Circuit). d.wires) c.net.view_is in
    IfOk-weaker c.of_nodes.result (λ d. d ≡ record { nodes = c.in_ok-nodes.nodes.items; wires = c.net.inside.wires }) (λ d. d ≡ walk net)
    (λ d e. e ∙ (λ i. record { nodes = c.in_ok-nodes.nodes.items; wires = wires i }) ∙ sym (walk_as net c.in_ok-nodes.nodes.items c.in_ok-nodes.ensures)) c.of_nodes.ensures
