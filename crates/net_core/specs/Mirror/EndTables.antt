-- Mirror of the table that a network keeps: the ends of each wire.
use Rattle.std.specs.Prelude.{◌≡◌, ℕ, suc, ◌+◌, ◌<◌, ◌^◌, Bool, true, false, not, if◌then◌else◌, nat_eq, List, [], ◌∷◌, ◌++◌, length, take, drop, slice_index_or}
use Rattle.std.specs.List.{AllByRecursion}
use Rattle.net_core.specs.declared.spec.NodeSpec.{NodeSpec}
use Rattle.net_core.specs.declared.table.Port.{Port}
use Rattle.net_core.specs.declared.table.End.{End}
use Rattle.net_core.specs.declared.table.End.TheVariants.{Free, At, Shared}
use Rattle.net_core.specs.declared.table.Ends.{Ends}
use Rattle.net_core.specs.Specs.{outs_of, IsFormed}
use Rattle.net_core.specs.Wiring.{Node, IsWired}

-- an end to which the ports of both come
abbrev pub joined : End → End → End
joined Free f = f
joined (At p) Free = At p
joined (At p) (At q) = Shared
joined (At p) Shared = Shared
joined Shared f = Shared

abbrev pub is_one : End → Bool
is_one Free = false
is_one (At p) = true
is_one Shared = false

-- the numbers of the node and of the port, where it is one
abbrev pub numbers_of : End → ℕ × ℕ
numbers_of Free = (0, 0)
numbers_of (At p) = (p.node, p.number)
numbers_of Shared = (0, 0)

-- a port and the wire at it
pub record Place : Type 0 where
  pub wire : ℕ
  pub port : Port

-- the end at the wire w, where these ports come
unfoldable pub end_in : ℕ → List Place → End
end_in w [] = Free
end_in w (x ∷ xs) = if nat_eq w x.wire then joined (At x.port) (end_in w xs) else end_in w xs

-- the ports of node n, from port p on, that are outputs, or inputs, by these directions
unfoldable pub ports_from : Bool → ℕ → ℕ → List Bool → List ℕ → List Place
ports_from b n p [] ws = []
ports_from b n p (d ∷ ds) [] = []
ports_from true n p (true ∷ ds) (w ∷ ws) = record { wire = w; port = record { node = n; number = p } } ∷ ports_from true n (p + 1) ds ws
ports_from true n p (false ∷ ds) (w ∷ ws) = ports_from true n (p + 1) ds ws
ports_from false n p (true ∷ ds) (w ∷ ws) = ports_from false n (p + 1) ds ws
ports_from false n p (false ∷ ds) (w ∷ ws) = record { wire = w; port = record { node = n; number = p } } ∷ ports_from false n (p + 1) ds ws

-- whether the drivers among the ports of node n, or its receivers, are outputs: those of the environment are exchanged
abbrev pub turned : Bool → ℕ → Bool
turned true n = not (nat_eq n 0)
turned false n = nat_eq n 0

abbrev pub ports_of : Bool → ℕ → Node → List Place
ports_of b n x = ports_from (turned b n) n 0 (outs_of x.spec) x.ends

-- the drivers, or the receivers, among the ports of these nodes, which have the numbers from n on
unfoldable pub all_ports : Bool → ℕ → List Node → List Place
all_ports b n [] = []
all_ports b n (x ∷ xs) = ports_of b n x ++ all_ports b (n + 1) xs

-- these nodes with the parts in the place of node a
abbrev pub with_parts : List Node → ℕ → List Node → List Node
with_parts xs a parts = take a xs ++ (parts ++ drop (suc a) xs)

abbrev pub no_ends : Ends
no_ends = record { driver = Free; receiver = Free }

abbrev pub driver_at : List Ends → ℕ → End
driver_at ends w = (slice_index_or ends w no_ends).driver

abbrev pub receiver_at : List Ends → ℕ → End
receiver_at ends w = (slice_index_or ends w no_ends).receiver

-- the ends of so many wires, at these drivers and receivers
pub record IsTable (wires : ℕ) (ends : List Ends) (drivers receivers : List Place) : Type 0 where
  pub sized : length ends ≡ wires
  pub drivers_of : (w : ℕ) → w < wires → driver_at ends w ≡ end_in w drivers
  pub receivers_of : (w : ℕ) → w < wires → receiver_at ends w ≡ end_in w receivers

-- the ends with these drivers and receivers added
pub record Added (old new : List Ends) (drivers receivers : List Place) : Type 0 where
  pub sized : length new ≡ length old
  pub drivers_of : (w : ℕ) → w < length old → driver_at new w ≡ joined (driver_at old w) (end_in w drivers)
  pub receivers_of : (w : ℕ) → w < length old → receiver_at new w ≡ joined (receiver_at old w) (end_in w receivers)

-- what a network keeps
pub record Kept (nodes : List Node) (wires : ℕ) (ends : List Ends) : Type 0 where
  pub some : 0 < length nodes
  pub fit : AllByRecursion (IsWired wires) nodes
  pub few : length nodes < 2 ^ 32
  pub table : IsTable wires ends (all_ports true 0 nodes) (all_ports false 0 nodes)

-- what a network in the making keeps
pub record KeptDraft (spec : NodeSpec) (parts : List Node) (wires : ℕ) (ends : List Ends) : Type 0 where
  pub formed : IsFormed spec
  pub fit : AllByRecursion (IsWired wires) parts
  pub few : suc (length parts) < 2 ^ 32
  pub table : IsTable wires ends (all_ports true 1 parts) (all_ports false 1 parts)
