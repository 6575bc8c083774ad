-- Networks in the places of several nodes of another, one after the other.
use Rattle.std.specs.Prelude.{ℕ, suc, ◌+◌, ◌-◌, Bool, IsTrue, List, [], ◌∷◌, ◌++◌, map, drop, length, ⊤, Option, None, Some}
use Rattle.std.specs.Option.{IfSome}
use Rattle.std.specs.List.{AllByRecursion}
use Rattle.net_core.specs.declared.spec.NodeSpec.{NodeSpec}
use Rattle.net_core.specs.Wiring.{Node, Circuit, IsNetwork, IsClosed}
use Rattle.net_core.specs.Networks.{IsClean, IsSpecified}
use Rattle.net_core.specs.Renumbering.{sum_of_parts}
use Rattle.substitute.specs.Splice.{spliced, Fitting}

-- Each part takes the place of its node, from node k on, and where there is no part the node stays. The
-- node after a part
-- stands behind the part's components.
abbrev pub all_spliced : Circuit → ℕ → List (Option Circuit) → Circuit
all_spliced c k [] = c
all_spliced c k (None ∷ ps) = all_spliced c (suc k) ps
all_spliced c k (Some m ∷ ps) = all_spliced (spliced c k m) (k + (length m.nodes - 1)) ps

-- each part may take the place of its node, as c stands before the first splice
abbrev pub FitEach : Circuit → ℕ → List (Option Circuit) → Type 0
FitEach c k [] = ⊤
FitEach c k (None ∷ ps) = FitEach c (suc k) ps
FitEach c k (Some m ∷ ps) = Fitting c k m × FitEach c (suc k) ps

-- how many wires the parts have
abbrev pub wires_in : List (Option Circuit) → ℕ
wires_in [] = 0
wires_in (None ∷ ps) = wires_in ps
wires_in (Some m ∷ ps) = m.wires + wires_in ps

-- P holds of each part
abbrev pub EachPart : (Circuit → Type 0) → List (Option Circuit) → Type 0
EachPart P ps = AllByRecursion (λ p. IfSome p P) ps

-- m is a closed and clean network for the specification s
pub record Serves (s : NodeSpec) (m : Circuit) : Type 0 where
  pub network : IsNetwork m
  pub closed : IsClosed m
  pub clean : IsClean m
  pub specified : IsSpecified m s

-- each part is a network for the specification of its node
abbrev pub ServeEach : List Node → List (Option Circuit) → Type 0
ServeEach xs [] = ⊤
ServeEach [] (p ∷ ps) = ⊥
ServeEach (x ∷ xs) (None ∷ ps) = ServeEach xs ps
ServeEach (x ∷ xs) (Some m ∷ ps) = Serves x.spec m × ServeEach xs ps

-- the specifications of a network's components
abbrev pub specs_in : Circuit → List NodeSpec
specs_in c = map (λ x. x.spec) (drop 1 c.nodes)

-- the same of these components after each part took the place of its node
abbrev pub specs_after : List Node → List (Option Circuit) → List NodeSpec
specs_after [] ps = []
specs_after (x ∷ xs) [] = x.spec ∷ specs_after xs []
specs_after (x ∷ xs) (None ∷ ps) = x.spec ∷ specs_after xs ps
specs_after (x ∷ xs) (Some m ∷ ps) = specs_in m ++ specs_after xs ps

-- each component of a network passes the test
abbrev pub PassIn : (NodeSpec → Bool) → Circuit → Type 0
PassIn test c = AllByRecursion (λ x. IsTrue (test x.spec)) (drop 1 c.nodes)

-- each of these components passes that stays, and each component of the parts
abbrev pub PassAfter : (NodeSpec → Bool) → List Node → List (Option Circuit) → Type 0
PassAfter test [] ps = ⊤
PassAfter test (x ∷ xs) [] = IsTrue (test x.spec) × PassAfter test xs []
PassAfter test (x ∷ xs) (None ∷ ps) = IsTrue (test x.spec) × PassAfter test xs ps
PassAfter test (x ∷ xs) (Some m ∷ ps) = PassIn test m × PassAfter test xs ps

-- the sum of a number of each of these components that stays, and of each component of the parts
abbrev pub sum_after : (NodeSpec → ℕ) → List Node → List (Option Circuit) → ℕ
sum_after f [] ps = 0
sum_after f (x ∷ xs) [] = f x.spec + sum_after f xs []
sum_after f (x ∷ xs) (None ∷ ps) = f x.spec + sum_after f xs ps
sum_after f (x ∷ xs) (Some m ∷ ps) = sum_of_parts f m + sum_after f xs ps
