-- The order of a closed network: wires and components get their numbers on a walk from the environment.
use Rattle.std.specs.Prelude.{◌≡◌, ℕ, zero, suc, ◌+◌, Bool, true, false, not, ◌&&◌, nat_eq, if◌then◌else◌, List, [], ◌∷◌, ◌++◌, length, Option, Some, None, slice_get, position}
use Rattle.std.specs.List.{range_with_len, position_or_len}
use Rattle.cmd_tree.specs.Lists.{is_in}
use Rattle.basic_kinds.specs.declared.kind.Kind.TheVariants.{Wire, Iwire, Source, Sink, Fork, C, Merge, Toggle, Dw, Seq}
use Rattle.net_core.specs.declared.spec.NodeSpec.{NodeSpec}
use Rattle.net_core.specs.declared.spec.NodeSpec.TheVariants as spec
use Rattle.net_core.specs.Wiring.{Node, Circuit, side, moved}
use Rattle.net_core.specs.Networks.{takes, end_node}

-- a walk so far: the nodes that are listed and the wires that have numbers, each in their new order, and how many wires are visited
pub record Walk : Type 0 where
  pub listed : List ℕ
  pub numbered : List ℕ
  pub visited : ℕ

-- a list with these numbers behind it, each that it does not have yet
unfoldable pub with_new : List ℕ → List ℕ → List ℕ
with_new ns [] = ns
with_new ns (v ∷ vs) = with_new (if is_in v ns then ns else ns ++ v ∷ []) vs

abbrev pub output_wires : Option Node → List ℕ
output_wires None = []
output_wires (Some x) = side true x

-- A node that is not yet listed is listed next, and its output wires that have no number take the next numbers in port order.
abbrev pub list_node : Circuit → ℕ → Walk → Walk
list_node c n w = if is_in n w.listed then w else record {
  listed = w.listed ++ n ∷ [];
  numbered = with_new w.numbered (output_wires (slice_get c.nodes n));
  visited = w.visited;
}

abbrev pub is_source : NodeSpec → Bool
is_source (spec.Kind Wire) = false
is_source (spec.Kind Iwire) = false
is_source (spec.Kind Source) = true
is_source (spec.Kind Sink) = false
is_source (spec.Kind (Fork n)) = false
is_source (spec.Kind (C n)) = false
is_source (spec.Kind (Merge n)) = false
is_source (spec.Kind Toggle) = false
is_source (spec.Kind (Dw s)) = false
is_source (spec.Kind (Seq k)) = false
is_source (spec.Cmd c) = false

abbrev pub source_at : Option Node → Bool
source_at None = false
source_at (Some x) = is_source x.spec

abbrev pub or_else : Option ℕ → Option ℕ → Option ℕ
or_else None o = o
or_else (Some n) o = Some n

-- where no wire is left to visit, the first SOURCE that is not listed, else the first component that is not
abbrev pub next_left : Circuit → List ℕ → Option ℕ
next_left c listed = or_else (position (λ n. source_at (slice_get c.nodes n) && not (is_in n listed)) (range_with_len 0 (length c.nodes)))
    (position (λ n. not (is_in n listed)) (range_with_len 0 (length c.nodes)))

-- One step. The next wire is visited, and lists its receiver. Where each wire with a number was visited, the next node that is left is listed.
abbrev pub step_at : Circuit → Walk → Option ℕ → Option ℕ → Option Walk
step_at c w (Some x) o = Some (list_node c (end_node (takes c) c x) (record w { visited = suc w.visited }))
step_at c w None (Some n) = Some (list_node c n w)
step_at c w None None = None

abbrev pub walk_step : Circuit → Walk → Option Walk
walk_step c w = step_at c w (slice_get w.numbered w.visited) (next_left c w.listed)

abbrev pub goes_on : Walk → (Walk → Walk) → Option Walk → Walk
goes_on w f None = w
goes_on w f (Some v) = f v

-- the walk after so many steps, or after all of them where there are fewer
unfoldable pub walked : Circuit → ℕ → Walk → Walk
walked c zero w = w
walked c (suc k) w = goes_on w (walked c k) (walk_step c w)

abbrev pub ends_at : Option Node → List ℕ
ends_at None = []
ends_at (Some x) = x.ends

-- the walk before its first step: the environment is listed, and the wires at its ports have the first numbers in port order
abbrev pub outset : Circuit → Walk
outset c = record { listed = 0 ∷ []; numbered = with_new [] (ends_at (slice_get c.nodes 0)); visited = 0 }

-- the whole walk
abbrev pub walk_of : Circuit → Walk
walk_of c = walked c (c.wires + length c.nodes) (outset c)

abbrev pub moved_at : (ℕ → ℕ) → Option Node → List Node
moved_at f None = []
moved_at f (Some x) = moved f x ∷ []

abbrev pub moved_all : (ℕ → ℕ) → Circuit → List ℕ → List Node
moved_all f c [] = []
moved_all f c (n ∷ ns) = moved_at f (slice_get c.nodes n) ++ moved_all f c ns

-- the network in walk order
unfoldable pub walk : Circuit → Circuit
walk c = record { nodes = moved_all (λ w. position_or_len (nat_eq w) (walk_of c).numbered) c (walk_of c).listed; wires = c.wires }

-- the network is its own walk: its nodes and its wires stand as the walk numbers them
abbrev pub IsInWalkOrder : Circuit → Type 0
IsInWalkOrder c = walk c ≡ c
