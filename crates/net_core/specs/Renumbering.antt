-- Networks with other numbers for their nodes and their wires, and what stays of them.
use Rattle.std.specs.Prelude.{◌≡◌, ◌↔◌, ℕ, ◌<◌, drop, slice_get, option_map}
use Rattle.std.specs.List.{sum_by}
use Rattle.net_core.specs.declared.spec.NodeSpec.{NodeSpec}
use Rattle.net_core.specs.Wiring.{Circuit, IsNetwork, IsClosed, moved}
use Rattle.net_core.specs.Networks.{IsBasic, IsClean, SoundFor, Correct}

-- other numbers for all numbers, and the way back
pub record Renumbering : Type 0 where
  pub to : ℕ → ℕ
  pub back : ℕ → ℕ
  pub to_back : (n : ℕ) → back (to n) ≡ n
  pub back_to : (k : ℕ) → to (back k) ≡ k

-- d is c with other numbers for its nodes and its wires. The environment stays first.
pub record IsRenumbered (c d : Circuit) : Type 0 where
  pub node : Renumbering
  pub wire : Renumbering
  pub outside : node.to 0 ≡ 0
  pub nodes : (n : ℕ) → slice_get d.nodes (node.to n) ≡ option_map (moved wire.to) (slice_get c.nodes n)
  pub wires : (w : ℕ) → w < c.wires ↔ wire.to w < d.wires

-- the sum of a number of each component's specification. The components are the nodes but the environment
abbrev pub sum_of_parts : (NodeSpec → ℕ) → Circuit → ℕ
sum_of_parts f c = sum_by (λ x. f x.spec) (drop 1 c.nodes)

-- d is a closed network too, has as many components of each sort, and is and does what c is and does
pub record Preserves (c d : Circuit) : Type 0 where
  pub network : IsNetwork d
  pub closed : IsClosed d
  pub parts : (f : NodeSpec → ℕ) → sum_of_parts f d ≡ sum_of_parts f c
  pub basic : IsBasic c → IsBasic d
  pub clean : IsClean c → IsClean d
  pub sound : (s : NodeSpec) → SoundFor c s → SoundFor d s
  pub correct : (s : NodeSpec) → Correct c s → Correct d s
