-- The layers in the places of the components of a network.
use Rattle.std.specs.Prelude.{◌≡◌, ℕ, ◌*◌, ◌<◌, ◌≤◌, nat_lt, if◌then◌else◌, List, [], ◌∷◌, ⊤, Option, None, Some}
use Rattle.std.specs.Option.{IfSome}
use Rattle.basic_kinds.specs.declared.kind.Kind.{Kind}
use Rattle.net_core.specs.declared.spec.NodeSpec.{NodeSpec}
use Rattle.net_core.specs.declared.spec.NodeSpec.TheVariants.{Kind as Basic, Cmd}
use Rattle.net_core.specs.Wiring.{Node, Circuit}
use Rattle.substitute.specs.Splices.{PassIn, specs_in}
use Rattle.two_way.specs.TwoWay.{weight}
use Rattle.two_way.specs.Layers.{IsSplitOf}
use Rattle.net_layers.specs.TwoWayNets.{is_two_way_part, is_splittable, two_way_parts, IsSplitTo}

-- a split whose components are split further, and which has few wires
pub record IsLaid (kind : Kind) (net : Option Circuit) : Type 0 where
  pub split : IsSplitOf kind net
  pub parts : IfSome net (PassIn is_splittable)
  pub few : IfSome net (λ m. m.wires ≤ 4 * two_way_parts (Basic kind))

abbrev pub IsLaidFor : NodeSpec → Option Circuit → Type 0
IsLaidFor (Basic k) net = IsLaid k net
IsLaidFor (Cmd d) net = ⊥

-- one for each node
abbrev pub AreLaid : List Node → List (Option Circuit) → Type 0
AreLaid [] [] = ⊤
AreLaid [] (p ∷ ps) = ⊥
AreLaid (x ∷ xs) [] = ⊥
AreLaid (x ∷ xs) (p ∷ ps) = IsLaidFor x.spec p × AreLaid xs ps

abbrev pub weight_of : NodeSpec → ℕ
weight_of (Basic k) = weight k
weight_of (Cmd d) = 0

abbrev pub greater : ℕ → ℕ → ℕ
greater a b = if nat_lt a b then b else a

-- the greatest weight
abbrev pub heaviest : List NodeSpec → ℕ
heaviest [] = 0
heaviest (x ∷ xs) = greater (weight_of x) (heaviest xs)

-- what a pass makes: nothing where each component is two-way, else a network of lighter components
abbrev pub IsLayered : Circuit → Option Circuit → Type 0
IsLayered c None = PassIn is_two_way_part c
IsLayered c (Some d) = IsSplitTo c d × (heaviest (specs_in d) < heaviest (specs_in c))
