-- FORKs side by side.
use Rattle.std.specs.Prelude.{◌≡◌, ◌⊎◌, ℕ, ◌+◌, ◌*◌, ◌<◌, List, [], ◌∷◌, map}
use Rattle.std.specs.List.{range_with_len}
use Rattle.cmd_tree.specs.Rounds.{counts, Follows}
use Rattle.basic_kinds.specs.declared.kind.Kind.TheVariants.{Fork}
use Rattle.net_core.specs.declared.spec.NodeSpec.{NodeSpec}
use Rattle.net_core.specs.declared.spec.NodeSpec.TheVariants.{Kind as Basic}
use Rattle.net_core.specs.Wiring.{Node, Circuit}

-- After the counts c the port p may come: an input where each of its m outputs has come as often, an output where it lags behind its input. The inputs
-- are the ports from 0, and the outputs of input i are the m ports from k + i * m.
abbrev pub ForksAt : ℕ → ℕ → (ℕ → ℕ) → ℕ → Type 0
ForksAt k m c p =
    ((p < k) × ((j : ℕ) → j < m → c p ≡ c (k + (p * m + j))))
    ⊎ ((i : ℕ) × (j : ℕ) × (i < k) × (j < m) × (p ≡ k + (i * m + j)) × (c p < c i))

-- each of k inputs is given on by its own m outputs, whatever the others do
abbrev pub Forks : ℕ → ℕ → List ℕ → Type 0
Forks k m t = Follows (λ u p. ForksAt k m (counts u) p) [] t

-- the FORK of input i
abbrev pub fork_part : ℕ → ℕ → ℕ → Node
fork_part k m i = record { spec = Basic (Fork m); ends = i ∷ range_with_len (k + i * m) m }

abbrev pub fork_parts : ℕ → ℕ → List Node
fork_parts k m = map (fork_part k m) (range_with_len 0 k)

-- k FORKs of m outputs, in the order of their inputs
abbrev pub forks_net : NodeSpec → ℕ → ℕ → Circuit
forks_net s k m = record { nodes = record { spec = s; ends = range_with_len 0 (k + k * m) } ∷ fork_parts k m; wires = k + k * m }
