-- What a network does: its runs, and when it is correct for a specification.
use Rattle.std.specs.Prelude.{◌≡◌, ◌≢◌, ℕ, ◌<◌, Bool, true, false, not, ◌&&◌, if◌then◌else◌, nat_eq, IsTrue, List, [], map, drop, length, Option, Some, None, slice_index_or}
use Rattle.std.specs.List.{AllByRecursion, list_any, range_with_len, position_or_len, slice_get}
use Rattle.net_core.specs.Runs.{Fabric, Sound, Exact}
use Rattle.net_core.specs.declared.spec.NodeSpec.{NodeSpec}
use Rattle.net_core.specs.Specs.{outs_of, May, is_kind}
use Rattle.net_core.specs.Wiring.{Node, Circuit, IsNetwork, IsClosed}

-- the directions of a node's ports in the network: node 0 has those of its specification exchanged. None where there is no node
abbrev pub directions_at : ℕ → Option Node → List Bool
directions_at n None = []
directions_at n (Some x) = if nat_eq n 0 then map not (outs_of x.spec) else outs_of x.spec

abbrev pub directions : Circuit → ℕ → List Bool
directions c n = directions_at n (slice_get c.nodes n)

-- node n has an output at port p, and an input at port p
abbrev pub gives : Circuit → ℕ → ℕ → Bool
gives c n p = slice_index_or (directions c n) p false

abbrev pub takes : Circuit → ℕ → ℕ → Bool
takes c n p = not (slice_index_or (directions c n) p true)

abbrev pub end_of : Option Node → ℕ → ℕ
end_of None p = 0
end_of (Some x) p = slice_index_or x.ends p 0

-- the wire at port p of node n
abbrev pub end_at : Circuit → ℕ → ℕ → ℕ
end_at c n p = end_of (slice_get c.nodes n) p

abbrev pub may_of : Option Node → List ℕ → Type 0
may_of None t = ⊥
may_of (Some x) t = May x.spec t

-- one of the ports in f is at the wire w, and no other
abbrev pub Once : (ℕ → ℕ → Bool) → Circuit → ℕ → Type 0
Once f c w = (n : ℕ) × (p : ℕ) × (f n p ≡ true) × (end_at c n p ≡ w)
    × ((m q : ℕ) → f m q ≡ true → end_at c m q ≡ w → (m ≡ n) × (q ≡ p))

-- each wire is at one output port and at one input port
abbrev pub IsClosedByEnds : Circuit → Type 0
IsClosedByEnds c = (w : ℕ) → w < c.wires → Once (gives c) c w × Once (takes c) c w

-- of the ports in f, one of node n is at the wire w
abbrev pub has_end : (ℕ → ℕ → Bool) → Circuit → ℕ → ℕ → Bool
has_end f c w n = list_any (λ p. f n p && nat_eq (end_at c n p) w) (range_with_len 0 (length (directions c n)))

-- of the ports in f, the first at the wire w: its node, and its number there
unfoldable pub end_node : (ℕ → ℕ → Bool) → Circuit → ℕ → ℕ
end_node f c w = position_or_len (has_end f c w) (range_with_len 0 (length c.nodes))

unfoldable pub end_port : (ℕ → ℕ → Bool) → Circuit → ℕ → ℕ
end_port f c w = position_or_len (λ p. f (end_node f c w) p && nat_eq (end_at c (end_node f c w) p) w)
    (range_with_len 0 (length (directions c (end_node f c w))))

-- port p of node n is one of those in f, is at the wire w, and is the first that is
abbrev pub IsEnd : (ℕ → ℕ → Bool) → Circuit → ℕ → ℕ → ℕ → Type 0
IsEnd f c w n p = (f n p ≡ true) × (end_at c n p ≡ w) × (end_node f c w ≡ n) × (end_port f c w ≡ p)

-- A network by what its runs depend on. Where it is closed, a wire leads to the one input port at it.
abbrev pub fabric : Circuit → Fabric
fabric c = record {
  may = λ n t. may_of (slice_get c.nodes n) t;
  fires = λ n p. gives c n p ≡ true;
  wire = end_at c;
  to = end_node (takes c) c;
  into = end_port (takes c) c;
}

abbrev pub spec_of : Option Node → Option NodeSpec
spec_of None = None
spec_of (Some x) = Some x.spec

-- the environment of the network is that of the specification s
abbrev pub IsSpecified : Circuit → NodeSpec → Type 0
IsSpecified c s = spec_of (slice_get c.nodes 0) ≡ Some s

-- The circuit is a network, and in no run of it with the environment of s is an event with a hazard enabled.
pub record SoundFor (c : Circuit) (s : NodeSpec) : Type 0 where
  pub network : IsNetwork c
  pub closed : IsClosed c
  pub specified : IsSpecified c s
  pub sound : Sound (fabric c)

-- And each trace of s is seen by the environment in some run.
pub record Correct (c : Circuit) (s : NodeSpec) : Type 0 where
  pub network : IsNetwork c
  pub closed : IsClosed c
  pub specified : IsSpecified c s
  pub sound : Sound (fabric c)
  pub exact : Exact (fabric c)

-- every node but the environment is a kind
abbrev pub IsBasic : Circuit → Type 0
IsBasic c = AllByRecursion (λ x. IsTrue (is_kind x.spec)) (drop 1 c.nodes)

-- no wire has its driver and its receiver at one node
abbrev pub IsClean : Circuit → Type 0
IsClean c = (w : ℕ) → w < c.wires → end_node (gives c) c w ≢ end_node (takes c) c w

-- the wire goes from the environment to the environment
abbrev pub IsThrough : Circuit → ℕ → Type 0
IsThrough c w = (end_node (gives c) c w ≡ 0) × (end_node (takes c) c w ≡ 0)
