-- A group of requests as the code keeps it, and its components by the numbers of their wires.
use Rattle.std.specs.Prelude.{ℕ, ◌+◌, ◌*◌, ◌<◌, ◌^◌, List, [], ◌∷◌, ◌++◌, map}
use Rattle.std.specs.List.{range_with_len}
use Rattle.basic_kinds.specs.declared.kind.Kind.{Kind}
use Rattle.basic_kinds.specs.declared.kind.Kind.TheVariants as kind
use Rattle.net_core.specs.declared.spec.NodeSpec.TheVariants.{Kind as Basic}
use Rattle.net_core.specs.Wiring.{Node}
use Rattle.seq_tree.specs.declared.groups.Group.{Group}
use Rattle.seq_tree.specs.SequencerLayer.{by_size, column_wait, size, before, base}

-- the group j, where the first group has h requests and the other one r
abbrev pub group_of : ℕ → ℕ → ℕ → Group
group_of h r j = record { request = before h j; grant = h + r + 1 + before h j; size = size h r j; base = base h r j }

-- the numbers of its wires, and one more, are numbers of 32 bits
pub record IsLow (g : Group) : Type 0 where
  pub request : g.request + g.size < 2 ^ 32
  pub grant : g.grant + g.size < 2 ^ 32
  pub inside : g.base + 5 * g.size + 4 < 2 ^ 32

abbrev pub component_node : Kind → List ℕ → Node
component_node k wires = record { spec = Basic k; ends = wires }

-- so many inputs, and one output
abbrev pub into_one : ℕ → ℕ → ℕ → List ℕ
into_one many inputs output = range_with_len inputs many ++ output ∷ []

-- so many inputs, one more, and as many outputs
abbrev pub in_and_out : ℕ → ℕ → ℕ → ℕ → List ℕ
in_and_out many inputs one outputs = range_with_len inputs many ++ one ∷ range_with_len outputs many

-- so many FORKs of two, side by side
abbrev pub fork_at : ℕ → ℕ → ℕ → ℕ → Node
fork_at taken first second i = component_node (kind.Fork 2) ((taken + i) ∷ (first + i) ∷ (second + i) ∷ [])

abbrev pub fork_nodes : ℕ → ℕ → ℕ → ℕ → List Node
fork_nodes many taken first second = map (fork_at taken first second) (range_with_len 0 many)

-- the components that a group has once
abbrev pub single_nodes : Group → List Node
single_nodes g =
    component_node (kind.Seq g.size) (in_and_out g.size g.request (g.base + 5 * g.size + 3) g.base)
    ∷ component_node (kind.Merge g.size) (into_one g.size (g.base + g.size) (g.base + 5 * g.size))
    ∷ component_node (column_wait g.size) (in_and_out g.size (g.base + 2 * g.size) (g.base + 5 * g.size + 1) (g.base + 3 * g.size))
    ∷ component_node (kind.Merge g.size) (into_one g.size (g.base + 4 * g.size) (g.base + 5 * g.size + 2))
    ∷ component_node kind.Iwire ((g.base + 5 * g.size + 2) ∷ (g.base + 5 * g.size + 3) ∷ [])
    ∷ []

abbrev pub group_nodes : Group → List Node
group_nodes g = by_size g.size [] (single_nodes g
    ++ (fork_nodes g.size g.base (g.base + g.size) (g.base + 2 * g.size)
    ++ fork_nodes g.size (g.base + 3 * g.size) g.grant (g.base + 4 * g.size)))

-- the wires of the group at the outer SEQ
abbrev pub call_wire : Group → ℕ
call_wire g = by_size g.size g.request (g.base + 5 * g.size)

abbrev pub give_wire : Group → ℕ
give_wire g = by_size g.size g.grant (g.base + 5 * g.size + 1)

-- how many wires stand before the group and inside it
abbrev pub end_wire : Group → ℕ
end_wire g = by_size g.size g.base (g.base + (5 * g.size + 4))

-- the environment and the outer SEQ, where the two groups have k requests
abbrev pub outer_nodes : ℕ → Group → Group → List Node
outer_nodes k g p =
    component_node (kind.Seq k) (range_with_len 0 (2 * k + 1))
    ∷ component_node (kind.Seq 2) (call_wire g ∷ call_wire p ∷ k ∷ give_wire g ∷ give_wire p ∷ [])
    ∷ []
