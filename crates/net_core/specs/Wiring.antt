-- Networks as lists of nodes, each with one wire at each port. Node 0 is the environment.
use Rattle.std.specs.Prelude.{◌≡◌, ℕ, suc, ◌<◌, Bool, true, false, not, if◌then◌else◌, nat_eq, List, [], ◌∷◌, ◌++◌, map, length, take, drop}
use Rattle.std.specs.List.{AllByRecursion}
use Rattle.net_core.specs.declared.spec.NodeSpec.{NodeSpec}
use Rattle.net_core.specs.Specs.{outs_of, IsFormed}

-- a node: its specification, and the wire at each of its ports
pub record Node : Type 0 where
  pub spec : NodeSpec
  pub ends : List ℕ

pub record Circuit : Type 0 where
  pub nodes : List Node
  pub wires : ℕ

-- a node with other numbers for its wires
abbrev pub moved : (ℕ → ℕ) → Node → Node
moved f x = record { spec = x.spec; ends = map f x.ends }

-- the network with these nodes in the place of its node a, and with so many wires
abbrev pub replaced : Circuit → ℕ → List Node → ℕ → Circuit
replaced c a xs n = record { nodes = take a c.nodes ++ (xs ++ drop (suc a) c.nodes); wires = n }

-- how often a wire stands in a list
unfoldable pub count : ℕ → List ℕ → ℕ
count w [] = 0
count w (v ∷ vs) = if nat_eq w v then suc (count w vs) else count w vs

-- the wires at the outputs, or at the inputs, of ports with these directions
unfoldable pub picked : Bool → List Bool → List ℕ → List ℕ
picked b [] ws = []
picked b (d ∷ ds) [] = []
picked true (true ∷ ds) (w ∷ ws) = w ∷ picked true ds ws
picked true (false ∷ ds) (w ∷ ws) = picked true ds ws
picked false (true ∷ ds) (w ∷ ws) = picked false ds ws
picked false (false ∷ ds) (w ∷ ws) = w ∷ picked false ds ws

-- the wires at a node's outputs, or at its inputs
abbrev pub side : Bool → Node → List ℕ
side b x = picked b (outs_of x.spec) x.ends

-- the wires at the outputs, or at the inputs, of components
unfoldable pub flows : Bool → List Node → List ℕ
flows b [] = []
flows b (x ∷ xs) = side b x ++ flows b xs

-- the same of a network: its environment, the first node, has its directions exchanged
unfoldable pub wiring : Bool → List Node → List ℕ
wiring b [] = []
wiring b (x ∷ xs) = side (not b) x ++ flows b xs

-- the wires at all output ports, and at all input ports
abbrev pub driven : Circuit → List ℕ
driven c = wiring true c.nodes

abbrev pub received : Circuit → List ℕ
received c = wiring false c.nodes

-- the wire has one driver and one receiver
abbrev pub IsOnce : Circuit → ℕ → Type 0
IsOnce c w = (count w (driven c) ≡ 1) × (count w (received c) ≡ 1)

abbrev pub IsClosed : Circuit → Type 0
IsClosed c = (w : ℕ) → w < c.wires → IsOnce c w

-- a node of a network with so many wires: one known wire at each port, and a well-formed kind
pub record IsWired (wires : ℕ) (x : Node) : Type 0 where
  pub sized : length x.ends ≡ length (outs_of x.spec)
  pub known : AllByRecursion (λ w. w < wires) x.ends
  pub formed : IsFormed x.spec

-- the circuit is a network: it has a node, and each node has one known wire at each port and a well-formed kind
pub record IsNetwork (c : Circuit) : Type 0 where
  pub some : 0 < length c.nodes
  pub wired : AllByRecursion (IsWired c.wires) c.nodes

-- a network in the making: what its environment will be, its components, and its wires
pub record Draft : Type 0 where
  pub spec : NodeSpec
  pub parts : List Node
  pub wires : ℕ

-- the network of a draft, whose environment has these wires
abbrev pub finished : Draft → List ℕ → Circuit
finished d ws = record { nodes = record { spec = d.spec; ends = ws } ∷ d.parts; wires = d.wires }
