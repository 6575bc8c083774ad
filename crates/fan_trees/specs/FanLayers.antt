-- One layer of the split of a FORK, a C or a MERGE: a two-way component, and a component for each half of the ports on the wide
-- side. A half of one port has no component: the wire of this port itself leads to the two-way one.
use Rattle.std.specs.Prelude.{◌≡◌, ℕ, zero, suc, ◌+◌, ◌-◌, if◌then◌else◌, List, [], ◌∷◌, ◌++◌, Option, None, Some, ⊤}
use Rattle.std.specs.List.{range_with_len}
use Rattle.basic_kinds.specs.declared.kind.Kind.{Kind}
use Rattle.basic_kinds.specs.declared.kind.Kind.TheVariants.{Wire, Iwire, Source, Sink, Fork, C, Merge, Toggle, Dw, Seq}
use Rattle.basic_kinds.specs.ShapeParts.{half}
use Rattle.net_core.specs.declared.spec.NodeSpec.TheVariants.{Kind as Basic}
use Rattle.net_core.specs.Wiring.{Node, Circuit}
use Rattle.two_way.specs.TwoWay.{at_most_two}

-- a FORK, a C or a MERGE
abbrev pub IsFan : Kind → Type 0
IsFan Wire = ⊥
IsFan Iwire = ⊥
IsFan Source = ⊥
IsFan Sink = ⊥
IsFan (Fork n) = ⊤
IsFan (C n) = ⊤
IsFan (Merge n) = ⊤
IsFan Toggle = ⊥
IsFan (Dw s) = ⊥
IsFan (Seq k) = ⊥

-- the first of the two where a half has one port, the second where it has more
abbrev pub by_width : {A : Type 0} → ℕ → A → A → A
by_width zero one more = one
by_width (suc zero) one more = one
by_width (suc (suc n)) one more = more

-- a FORK of n outputs: the wire that it takes, and those that it gives
abbrev pub fork_node : ℕ → ℕ → List ℕ → Node
fork_node n taken given = record { spec = Basic (Fork n); ends = taken ∷ given }

-- The layer of a FORK of n outputs, with h in the first half and r in the rest. The environment is at the wires from 0 on: the
-- input, and the outputs in order. The wires n + 1 and n + 2 lead from the FORK of two to those of the halves.
abbrev pub fork_layer : ℕ → ℕ → ℕ → Circuit
fork_layer n h r = record {
  nodes = fork_node n 0 (range_with_len 1 n)
      ∷ fork_node 2 0 ((n + 1) ∷ by_width r (h + 1) (n + 2) ∷ [])
      ∷ fork_node h (n + 1) (range_with_len 1 h)
      ∷ by_width r [] (fork_node r (n + 2) (range_with_len (h + 1) r) ∷ []);
  wires = by_width r (n + 2) (n + 3);
}

-- a component of n inputs: the wires that it takes, and the one that it gives
abbrev pub gather_node : (ℕ → Kind) → ℕ → List ℕ → ℕ → Node
gather_node kind n taken given = record { spec = Basic (kind n); ends = taken ++ given ∷ [] }

-- The layer of a C or a MERGE of n inputs, with h in the first half and r in the rest. The environment is at the wires from 0 on:
-- the inputs in order, and the output. The wires n + 1 and n + 2 lead from the components of the halves to that of two.
abbrev pub gather_layer : (ℕ → Kind) → ℕ → ℕ → ℕ → Circuit
gather_layer kind n h r = record {
  nodes = gather_node kind n (range_with_len 0 n) n
      ∷ gather_node kind h (range_with_len 0 h) (n + 1)
      ∷ (by_width r [] (gather_node kind r (range_with_len h r) (n + 2) ∷ [])
      ++ gather_node kind 2 ((n + 1) ∷ by_width r h (n + 2) ∷ []) n ∷ []);
  wires = by_width r (n + 2) (n + 3);
}

-- the layer, or nothing for a kind that is two-way
abbrev pub fan_layer : Kind → Option Circuit
fan_layer Wire = None
fan_layer Iwire = None
fan_layer Source = None
fan_layer Sink = None
fan_layer (Fork n) = if at_most_two n then None else Some (fork_layer n (half n) (n - half n))
fan_layer (C n) = if at_most_two n then None else Some (gather_layer (λ k. C k) n (half n) (n - half n))
fan_layer (Merge n) = if at_most_two n then None else Some (gather_layer (λ k. Merge k) n (half n) (n - half n))
fan_layer Toggle = None
fan_layer (Dw s) = None
fan_layer (Seq k) = None

abbrev pub IsFanLayer : Kind → Option Circuit → Type 0
IsFanLayer kind net = net ≡ fan_layer kind
