use Rattle.std.proofs.Common.{◌≡◌, ◌-◌, ℕ, List, ◌++◌, length, sym, ap, subst, ◌∙◌, arith}
use Rattle.std.specs.Prelude.{IfOk}
use Rattle.std.specs.List.{AllByRecursion}
use Rattle.basic_kinds.specs.ShapeParts.{half}
use Rattle.net_core.specs.Wiring.{Node, Circuit, IsWired, IsClosed}
use Rattle.seq_tree.specs.declared.groups.Group.{Group}
use Rattle.seq_tree.specs.Mirror.GroupNodes.{group_of, group_nodes, end_wire, outer_nodes}
use Rattle.seq_tree.specs.SequencerLayer.{sequencer_circuit}
use Rattle.seq_tree.proofs.GroupNumbers.{nodes_few, same_circuit}
use Rattle.seq_tree.proofs.SequencerLaw.{sequencer_right}
use Rattle.seq_tree.proofs.layers.layer.Goals as goal

-- what stands before the call
made : (k : ℕ) (g p : Group) (outer first rest one all : List Node) (m : ℕ) → g ≡ group_of (half k) (k - half k) 0 → p ≡ group_of (half k) (k - half k) 1
    → outer ≡ outer_nodes k g p → first ≡ group_nodes g → rest ≡ group_nodes p → one ≡ outer ++ first → all ≡ one ++ rest → m ≡ end_wire p
    → ◌≡◌ {A = Circuit} (record { nodes = all; wires = m }) (sequencer_circuit k)
made k g p outer first rest one all m a b outer_is first_is rest_is one_is all_is many =
    let nodes : all ≡ (outer_nodes k g p ++ group_nodes g) ++ group_nodes p = all_is ∙ (λ i. one_is i ++ rest) ∙ (λ i. (outer_is i ++ first_is i) ++ rest_is i) in
    same_circuit k all m (nodes ∙ (λ i. (outer_nodes k (a i) (b i) ++ group_nodes (a i)) ++ group_nodes (b i))) (many ∙ ap end_wire b)

pub of_nodes-requires-clause-few : goal.of_nodes-requires-clause-few
of_nodes-requires-clause-few c =
    let k = c.args.requests in
    let whole = made k _ _ _ _ _ _ _ _ c.groups.ensures.first c.groups.ensures.rest c.in_ok-nodes.ensures c.in_ok-nodes-2.ensures c.in_ok-nodes-3.ensures c.in_ok-append.ensures.items
    c.in_ok-append-2.ensures.items c.end.ensures in
    omega (arith, ap (λ (d : Circuit). length d.nodes) whole, nodes_few k, c.requires.formed.few)

pub of_nodes-requires-clause-wired : goal.of_nodes-requires-clause-wired
of_nodes-requires-clause-wired c =
    let k = c.args.requests in
    let whole = made k _ _ _ _ _ _ _ _ c.groups.ensures.first c.groups.ensures.rest c.in_ok-nodes.ensures c.in_ok-nodes-2.ensures c.in_ok-nodes-3.ensures c.in_ok-append.ensures.items
    c.in_ok-append-2.ensures.items c.end.ensures in
    subst (λ (d : Circuit). AllByRecursion (IsWired d.wires) d.nodes) (sym whole) (sequencer_right k c.requires.wide c.requires.formed).correct.network.wired

pub of_nodes-requires-clause-closed : goal.of_nodes-requires-clause-closed
of_nodes-requires-clause-closed c =
    let k = c.args.requests in
    let whole = made k _ _ _ _ _ _ _ _ c.groups.ensures.first c.groups.ensures.rest c.in_ok-nodes.ensures c.in_ok-nodes-2.ensures c.in_ok-nodes-3.ensures c.in_ok-append.ensures.items
    c.in_ok-append-2.ensures.items c.end.ensures in
    subst IsClosed (sym whole) (sequencer_right k c.requires.wide c.requires.formed).correct.closed

pub returns : goal.returns
returns c =
    let k = c.args.requests in
    let whole = made k _ _ _ _ _ _ _ _ c.groups.ensures.first c.groups.ensures.rest c.in_ok-nodes.ensures c.in_ok-nodes-2.ensures c.in_ok-nodes-3.ensures c.in_ok-append.ensures.items
    c.in_ok-append-2.ensures.items c.end.ensures in
    subst (λ (d : Circuit). IfOk c.of_nodes.result (λ net. net ≡ d)) whole c.of_nodes.ensures
