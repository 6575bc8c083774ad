-- Charts: from named nodes and wires to a network of numbers.
use Rattle.std.specs.Prelude.{ℕ, List, ◌∷◌, map}
use Rattle.net_core.specs.declared.spec.NodeSpec.{NodeSpec}
use Rattle.net_core.specs.Wiring.{Node, Circuit}

-- The environment and the components by names; of each its specification and the wire at each port; of each wire its number; and how many wires there are.
pub record Chart (N W : Type 0) : Type 0 where
  pub env : N
  pub parts : List N
  pub spec : N → NodeSpec
  pub ports : N → List W
  pub number : W → ℕ
  pub many : ℕ

abbrev pub node_of : {N W : Type 0} → Chart N W → N → Node
node_of c n = record { spec = c.spec n; ends = map c.number (c.ports n) }

-- the network of a chart
abbrev pub charted : {N W : Type 0} → Chart N W → Circuit
charted c = record { nodes = node_of c c.env ∷ map (node_of c) c.parts; wires = c.many }
