-- Mirror of the loop over the parts: the nodes that stand in the place of each node, with their numbers.
use Rattle.std.specs.Prelude.{ℕ, ◌+◌, List, [], ◌∷◌, ◌++◌, map, drop, Option, None, Some}
use Rattle.net_core.specs.Wiring.{Node, Circuit, moved}
use Rattle.substitute.specs.Splice.{renumber_at, rank, is_inner}

-- the nodes in the place of the node x, where there are n wires so far, and how many wires there then are
abbrev pub in_place : ℕ → Node → Option Circuit → List Node
in_place n x None = x ∷ []
in_place n x (Some m) = map (moved (renumber_at x.ends n m)) (drop 1 m.nodes)

abbrev pub wires_with : ℕ → Option Circuit → ℕ
wires_with n None = n
wires_with n (Some m) = n + rank (is_inner m) m.wires

-- the same of several nodes
abbrev pub all_in_place : ℕ → List Node → List (Option Circuit) → List Node
all_in_place n [] ps = []
all_in_place n (x ∷ xs) [] = x ∷ all_in_place n xs []
all_in_place n (x ∷ xs) (p ∷ ps) = in_place n x p ++ all_in_place (wires_with n p) xs ps

abbrev pub wires_with_all : ℕ → List (Option Circuit) → ℕ
wires_with_all n [] = n
wires_with_all n (p ∷ ps) = wires_with_all (wires_with n p) ps
