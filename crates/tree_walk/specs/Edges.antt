-- Of some bursts the place of the first of each direction.
use Rattle.std.specs.Prelude.{ℕ, List, [], ◌∷◌, Option, Some, None}
use Rattle.cmd_tree.specs.declared.tree.Dir.{Dir}
use Rattle.cmd_tree.specs.declared.tree.Dir.TheVariants.{Input, Output}
use Rattle.tree_walk.specs.declared.edges.ByDirection.{ByDirection}
use Rattle.tree_walk.specs.declared.edges.Edges.{Edges}
use Rattle.tree_walk.specs.Bursts.{Burst, dir_of}
use Rattle.tree_walk.specs.Meetings.{Neighbours}

-- the place where it is of the direction asked for, else what is told of the others
abbrev pub if_input : Dir → ℕ → Option ℕ → Option ℕ
if_input Input k others = Some k
if_input Output k others = others

abbrev pub if_output : Dir → ℕ → Option ℕ → Option ℕ
if_output Input k others = others
if_output Output k others = Some k

abbrev pub first_input : List Burst → Option ℕ
first_input [] = None
first_input (b ∷ bs) = if_input (dir_of b.marks) b.place (first_input bs)

abbrev pub first_output : List Burst → Option ℕ
first_output [] = None
first_output (b ∷ bs) = if_output (dir_of b.marks) b.place (first_output bs)

abbrev pub by_direction : List Burst → ByDirection
by_direction bs = record { input = first_input bs; output = first_output bs }

-- of two lists of bursts
abbrev pub edges_of : Neighbours → Edges
edges_of n = record { lasts = by_direction n.lasts; firsts = by_direction n.firsts }
