-- One layer of the split of a kind: a network of lighter kinds in its place.
use Rattle.std.specs.Prelude.{◌≡◌, ◌↔◌, ℕ, ◌<◌, Option, None, true, drop}
use Rattle.std.specs.List.{AllByRecursion}
use Rattle.std.specs.Option.{IfSome}
use Rattle.basic_kinds.specs.declared.kind.Kind.{Kind}
use Rattle.basic_kinds.specs.Sorts.{Sort}
use Rattle.basic_kinds.specs.Sums.{two_way_sum}
use Rattle.net_core.specs.declared.spec.NodeSpec.{NodeSpec}
use Rattle.net_core.specs.declared.spec.NodeSpec.TheVariants.{Kind as Basic, Cmd}
use Rattle.net_core.specs.Wiring.{Circuit}
use Rattle.net_core.specs.Renumbering.{sum_of_parts}
use Rattle.net_laws.specs.Implementing.{Implements}
use Rattle.two_way.specs.TwoWay.{is_two_way, weight, counted_as}

-- how many two-way components of the sort stand for it in the end
abbrev pub two_way_part : Sort → NodeSpec → ℕ
two_way_part s (Basic k) = two_way_sum (counted_as k) s
two_way_part s (Cmd d) = 0

-- the kind is lighter than another
abbrev pub IsLighter : Kind → NodeSpec → Type 0
IsLighter k (Basic j) = weight j < weight k
IsLighter k (Cmd d) = ⊥

-- The network is basic, clean and correct for the kind, its components are lighter, and the same two-way components stand
-- for them in the end as for the kind.
pub record IsLayerOf (kind : Kind) (net : Circuit) : Type 0 where
  pub right : Implements net (Basic kind)
  pub lighter : AllByRecursion (λ x. IsLighter kind x.spec) (drop 1 net.nodes)
  pub sums : (s : Sort) → sum_of_parts (two_way_part s) net ≡ two_way_sum (counted_as kind) s

-- what a split answers: nothing exactly where the kind is two-way, else a layer
pub record IsSplitOf (kind : Kind) (net : Option Circuit) : Type 0 where
  pub none : net ≡ None ↔ is_two_way kind ≡ true
  pub layer : IfSome net (IsLayerOf kind)
