-- A network in the place of one node of another.
use Rattle.std.specs.Prelude.{◌≡◌, ℕ, zero, suc, ◌+◌, ◌<◌, Bool, not, ◌&&◌, length, map, take, drop, List, ◌++◌, slice_get, slice_index, nat_eq, if◌then◌else◌}
use Rattle.std.specs.List.{AllByRecursion}
use Rattle.net_core.specs.Wiring.{Circuit, IsWired, IsNetwork, IsClosed, moved}
use Rattle.net_core.specs.Walk.{ends_at}
use Rattle.net_core.specs.Networks.{gives, takes, end_node, end_port, spec_of, IsThrough}

-- the node and the port that drive a wire, and those that receive it
abbrev pub driver : Circuit → ℕ → ℕ
driver c = end_node (gives c) c

abbrev pub output_port : Circuit → ℕ → ℕ
output_port c = end_port (gives c) c

abbrev pub receiver : Circuit → ℕ → ℕ
receiver c = end_node (takes c) c

abbrev pub input_port : Circuit → ℕ → ℕ
input_port c = end_port (takes c) c

-- neither end of the wire is at the environment
unfoldable pub is_inner : Circuit → ℕ → Bool
is_inner m w = not (nat_eq (driver m w) 0) && not (nat_eq (receiver m w) 0)

-- how many numbers below n pass
unfoldable pub rank : (ℕ → Bool) → ℕ → ℕ
rank f zero = 0
rank f (suc n) = if f n then suc (rank f n) else rank f n

-- The number in the result of m's wire w, where m takes the place of a node with these wires at its ports
-- in a network
-- with `first` wires: a wire at m's environment is fused with the wire at the node's port, and the inner
-- wires come
-- after those of the network in their order.
unfoldable pub renumber_at : List ℕ → ℕ → Circuit → ℕ → ℕ
renumber_at ends first m w =
    if nat_eq (driver m w) 0 then slice_index ends (output_port m w)
    else if nat_eq (receiver m w) 0 then slice_index ends (input_port m w)
    else first + rank (is_inner m) w

-- the same where m takes the place of c's node a
unfoldable pub renumber : Circuit → ℕ → Circuit → ℕ → ℕ
renumber c a m w = renumber_at (ends_at (slice_get c.nodes a)) c.wires m w

-- c with the components of m in the place of its node a, in their order
unfoldable pub spliced : Circuit → ℕ → Circuit → Circuit
spliced c a m = record {
  nodes = take a c.nodes ++ (map (moved (renumber c a m)) (drop 1 m.nodes) ++ drop (suc a) c.nodes);
  wires = c.wires + rank (is_inner m) m.wires;
}

-- m may take the place of c's node a.
pub record Fitting (c : Circuit) (a : ℕ) (m : Circuit) : Type 0 where
  -- each node has its wires, and each wire its two ends
  pub fit_net : AllByRecursion (IsWired c.wires) c.nodes
  pub closed_net : IsClosed c
  pub fit_part : AllByRecursion (IsWired m.wires) m.nodes
  pub closed_part : IsClosed m
  -- a is a component, and m has an environment, which is specified as a is
  pub component : 0 < a
  pub inside : a < length c.nodes
  pub some : 0 < length m.nodes
  pub same : spec_of (slice_get c.nodes a) ≡ spec_of (slice_get m.nodes 0)
  -- no wire of m goes from its environment to its environment, and no wire of c from a to a
  pub not_through : (w : ℕ) → w < m.wires → IsThrough m w → ⊥
  pub not_self : (w : ℕ) → w < c.wires → driver c w ≡ a → receiver c w ≡ a → ⊥

-- m may take the place of a node that is specified as m's environment is and has these wires at its ports
pub record FitsAt (ends : List ℕ) (m : Circuit) : Type 0 where
  pub network : IsNetwork m
  pub closed : IsClosed m
  pub sized : length ends ≡ length (ends_at (slice_get m.nodes 0))
  pub not_through : (w : ℕ) → w < m.wires → IsThrough m w → ⊥
