use Rattle.std.proofs.Common.{◌≡◌, ℕ, ◌+◌, List, [], ◌∷◌, ◌++◌, sym, ◌∙◌, arith}
use Rattle.std.proofs.lemmas.List.FromFn.{map-range_with_len_more}
use Rattle.basic_kinds.specs.declared.kind.Kind.TheVariants.{Fork}
use Rattle.net_core.specs.Wiring.{Node}
use Rattle.seq_tree.specs.Mirror.GroupNodes.{component_node, fork_at, fork_nodes}
use Rattle.seq_tree.proofs.groups.forks.Goals as goal

one_more : (many taken first second : ℕ) (before after : List Node) (node : Node) (wires : List ℕ) → after ≡ before ++ node ∷ [] → before ≡ fork_nodes many taken first second
    → node ≡ component_node (Fork 2) wires → wires ≡ (taken + many) ∷ (first + many) ∷ (second + many) ∷ [] → after ≡ fork_nodes (many + 1) taken first second
one_more many taken first second before after node wires a b c d =
    a ∙ (λ i. b i ++ c i ∷ []) ∙ (λ i. fork_nodes many taken first second ++ component_node (Fork 2) (d i) ∷ [])
    ∙ sym (map-range_with_len_more (fork_at taken first second) 0 many many (omega arith))

pub loop-count-preserved : goal.loop-count-preserved
loop-count-preserved c =
    one_more c.loop-count.count c.args.taken c.args.first c.args.second _ _ _ _ c.in_ok-push.ensures.items c.loop-count.invariant c.component.ensures c.in_ok-wires.ensures.items
