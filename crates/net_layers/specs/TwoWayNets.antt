-- Networks of two-way components, and those that layers make such ones.
use Rattle.std.specs.Prelude.{◌≡◌, ℕ, ◌+◌, ◌<◌, ◌^◌, Bool, true, false, length}
use Rattle.basic_kinds.specs.declared.kind.Kind.{Kind}
use Rattle.basic_kinds.specs.declared.kind.Kind.TheVariants.{Wire, Iwire, Source, Sink, Fork, C, Merge, Toggle, Dw, Seq}
use Rattle.basic_kinds.specs.Sorts.{Sort, Wires, Iwires, Sources, Sinks, Forks, Joins, Merges, Toggles, Waits, Sequencers}
use Rattle.net_core.specs.declared.spec.NodeSpec.{NodeSpec}
use Rattle.net_core.specs.declared.spec.NodeSpec.TheVariants.{Kind as Basic, Cmd}
use Rattle.net_core.specs.Specs.{outs_of}
use Rattle.net_core.specs.Wiring.{Circuit}
use Rattle.net_core.specs.Renumbering.{sum_of_parts}
use Rattle.net_laws.specs.Implementing.{Implements}
use Rattle.substitute.specs.Splices.{PassIn}
use Rattle.two_way.specs.TwoWay.{is_two_way}
use Rattle.two_way.specs.Layers.{two_way_part}

-- the component is a two-way kind
abbrev pub is_two_way_part : NodeSpec → Bool
is_two_way_part (Basic k) = is_two_way k
is_two_way_part (Cmd d) = false

-- a FORK, a C or a MERGE of any width, or another kind that is two-way
abbrev pub is_splittable_kind : Kind → Bool
is_splittable_kind Wire = true
is_splittable_kind Iwire = true
is_splittable_kind Source = true
is_splittable_kind Sink = true
is_splittable_kind (Fork n) = true
is_splittable_kind (C n) = true
is_splittable_kind (Merge n) = true
is_splittable_kind Toggle = true
is_splittable_kind (Dw s) = is_two_way (Dw s)
is_splittable_kind (Seq k) = is_two_way (Seq k)

abbrev pub is_splittable : NodeSpec → Bool
is_splittable (Basic k) = is_splittable_kind k
is_splittable (Cmd d) = false

-- how many two-way components of all sorts stand for it in the end
abbrev pub two_way_parts : NodeSpec → ℕ
two_way_parts x = two_way_part Wires x + two_way_part Iwires x + two_way_part Sources x + two_way_part Sinks x + two_way_part Forks x
    + two_way_part Joins x + two_way_part Merges x + two_way_part Toggles x + two_way_part Waits x + two_way_part Sequencers x

-- The network implements something that has few ports, each component is split into two-way ones, and these are few.
pub record IsSplittable (net : Circuit) : Type 0 where
  pub spec : NodeSpec
  pub right : Implements net spec
  pub ports : length (outs_of spec) < 2 ^ 28
  pub parts : PassIn is_splittable net
  pub few : sum_of_parts two_way_parts net < 2 ^ 26

-- What layers in the places of components keep: what the network is for, that each component is split into two-way ones, and how
-- many of these of each sort there are in the end.
pub record IsSplitTo (c d : Circuit) : Type 0 where
  pub right : (s : NodeSpec) → Implements c s → Implements d s
  pub parts : PassIn is_splittable d
  pub sums : (s : Sort) → sum_of_parts (two_way_part s) d ≡ sum_of_parts (two_way_part s) c
