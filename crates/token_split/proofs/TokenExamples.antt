-- Networks that are known from elsewhere, by reckoning: the wires of each component, and what it is.
use Rattle.std.proofs.Common.{◌≡◌, ℕ, List, [], ◌∷◌, map, refl}
use Rattle.std.specs.Prelude.{Some, None, drop}
use native.Mathlib.Decide.{ℕ_discrete}
use Rattle.cmd_tree.specs.declared.tree.Proc.{Proc}
use Rattle.cmd_tree.specs.Marks.{input, output}
use Rattle.basic_kinds.specs.declared.kind.Kind.TheVariants as kind
use Rattle.net_core.specs.declared.spec.NodeSpec.{NodeSpec}
use Rattle.net_core.specs.declared.spec.NodeSpec.TheVariants.{Kind as Basic, Cmd}
use Rattle.net_core.specs.Wiring.{Node, Circuit, picked}
use Rattle.net_core.specs.Walk.{walk, walked, with_new}
use Rattle.net_core.specs.Networks.{end_node}
use Rattle.net_laws.specs.Charts.{charted}
use Rattle.place_graph.specs.Graph.{graph_of}
use Rattle.place_graph.proofs.SumExamples.{in_turn}
use Rattle.token_split.specs.TokenChart.{links, token_chart}

data Part : Type 0 where
  Other : Part
  Join : Part
  Fork : Part
  Merge : Part
  Iwire : Part
  Source : Part
  Wait : ℕ → ℕ → List (ℕ × ℕ) → Part

abbrev part_of : NodeSpec → Part
part_of (Cmd c) = Other
part_of (Basic kind.Wire) = Other
part_of (Basic kind.Iwire) = Iwire
part_of (Basic kind.Source) = Source
part_of (Basic kind.Sink) = Other
part_of (Basic (kind.Fork n)) = Fork
part_of (Basic (kind.C n)) = Join
part_of (Basic (kind.Merge n)) = Merge
part_of (Basic kind.Toggle) = Other
part_of (Basic (kind.Dw s)) = Wait s.rows s.cols s.cross
part_of (Basic (kind.Seq n)) = Other

abbrev net_of : NodeSpec → Proc → ℕ → Circuit
net_of s p names = charted (token_chart s (links (graph_of p) names))

abbrev ends_of : Circuit → List (List ℕ)
ends_of c = map (λ (n : Node). n.ends) c.nodes

abbrev parts_of : Circuit → List Part
parts_of c = map (λ (n : Node). part_of n.spec) (drop 1 c.nodes)

-- pref*[a?;b!;c?;d!], as it is built
abbrev two_waits : Proc
two_waits = record { lead = None; body = Some (in_turn (input 0 ∷ output 1 ∷ input 2 ∷ output 3 ∷ [])) }

two_waits_ends : ends_of (net_of (Basic kind.Toggle) two_waits 4)
    ≡ (3 ∷ 0 ∷ 5 ∷ 1 ∷ []) ∷ (2 ∷ 3 ∷ 6 ∷ []) ∷ (4 ∷ 5 ∷ 7 ∷ []) ∷ (6 ∷ 0 ∷ 4 ∷ []) ∷ (7 ∷ 1 ∷ 8 ∷ []) ∷ (8 ∷ 2 ∷ []) ∷ []
unfolding ℕ_discrete lib.Count.ones
two_waits_ends = refl

two_waits_parts : parts_of (net_of (Basic kind.Toggle) two_waits 4) ≡ Join ∷ Join ∷ Fork ∷ Fork ∷ Iwire ∷ []
unfolding ℕ_discrete lib.Count.ones
two_waits_parts = refl

-- pref[a?;b!;*[a?;c!]], in walk order: its ports are those of a TOGGLE
abbrev once_before : Proc
once_before = record { lead = Some (in_turn (input 0 ∷ output 1 ∷ [])); body = Some (in_turn (input 0 ∷ output 2 ∷ [])) }

once_before_ends : ends_of (walk (net_of (Basic kind.Toggle) once_before 3))
    ≡ (0 ∷ 1 ∷ 2 ∷ []) ∷ (8 ∷ 7 ∷ 0 ∷ 3 ∷ 4 ∷ []) ∷ (3 ∷ 1 ∷ 5 ∷ []) ∷ (4 ∷ 2 ∷ 6 ∷ []) ∷ (5 ∷ 6 ∷ 7 ∷ []) ∷ (8 ∷ []) ∷ []
unfolding ℕ_discrete lib.Count.ones walk walked with_new end_node picked
once_before_ends = refl

once_before_parts : parts_of (walk (net_of (Basic kind.Toggle) once_before 3)) ≡ Wait 2 1 ((0, 0) ∷ (1, 0) ∷ []) ∷ Fork ∷ Fork ∷ Merge ∷ Source ∷ []
unfolding ℕ_discrete lib.Count.ones walk walked with_new end_node picked
once_before_parts = refl

-- pref*[a?;b!;a?;b!;a?;c!], in walk order
abbrev three_waits : Proc
three_waits = record { lead = None; body = Some (in_turn (input 0 ∷ output 1 ∷ input 0 ∷ output 1 ∷ input 0 ∷ output 2 ∷ [])) }

three_waits_ends : ends_of (walk (net_of (Basic kind.Toggle) three_waits 3))
    ≡ (0 ∷ 1 ∷ 2 ∷ []) ∷ (11 ∷ 7 ∷ 9 ∷ 0 ∷ 3 ∷ 4 ∷ 5 ∷ []) ∷ (3 ∷ 6 ∷ 7 ∷ []) ∷ (4 ∷ 8 ∷ 9 ∷ []) ∷ (5 ∷ 2 ∷ 10 ∷ []) ∷ (6 ∷ 8 ∷ 1 ∷ []) ∷ (10 ∷ 11 ∷ []) ∷ []
unfolding ℕ_discrete lib.Count.ones walk walked with_new end_node picked
three_waits_ends = refl

three_waits_parts : parts_of (walk (net_of (Basic kind.Toggle) three_waits 3)) ≡ Wait 3 1 ((0, 0) ∷ (1, 0) ∷ (2, 0) ∷ []) ∷ Fork ∷ Fork ∷ Fork ∷ Merge ∷ Iwire ∷ []
unfolding ℕ_discrete lib.Count.ones walk walked with_new end_node picked
three_waits_parts = refl
