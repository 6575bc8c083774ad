-- What a sum makes of the components of a network.
use Rattle.std.specs.Prelude.{◌≡◌, ℕ, length, [], ◌∷◌}
use Rattle.basic_kinds.specs.Sorts.{Sort, Joins}
use Rattle.basic_kinds.specs.Sums.{Counted, Wide, Wait, total_of}
use Rattle.place_graph.specs.Sums.{processes}
use Rattle.net_core.specs.declared.spec.NodeSpec.{NodeSpec}
use Rattle.net_core.specs.declared.spec.NodeSpec.TheVariants.{Kind, Cmd}
use Rattle.two_way.specs.TwoWay.{counted_as}

-- A sum as it goes over networks: what is of width less than two is no component, and a DW of one crossing is a C of its row and
-- its column.
pub record IsSum (sum : Counted → Sort → ℕ) : Type 0 where
  pub none : (q s : Sort) → sum (Wide q 0) s ≡ 0
  pub wire : (q s : Sort) → sum (Wide q 1) s ≡ 0
  pub single : (s : Sort) → sum (Wait 1 1 ((0, 0) ∷ [])) s ≡ sum (Wide Joins 2) s

-- what the sum makes of a component, and of a process that stands in the place of its network
abbrev pub node_sum : (Counted → Sort → ℕ) → Sort → NodeSpec → ℕ
node_sum sum s (Kind k) = sum (counted_as k) s
node_sum sum s (Cmd d) = total_of sum (processes d.procs (length d.names)) s
