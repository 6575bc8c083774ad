-- What a walk has passed of a process.
use Rattle.std.specs.Prelude.{ℕ, List, [], ◌∷◌, ◌++◌}
use Rattle.cmd_tree.specs.declared.tree.Mark.{Mark}
use Rattle.cmd_tree.specs.declared.tree.Proc.{Proc}
use Rattle.tree_walk.specs.Bursts.{Burst, bursts}
use Rattle.tree_walk.specs.Meetings.{Neighbours, Alternative, neighbours, choices}

-- bursts, neighbours and choices, each in the order of the walk
pub record Passed : Type 0 where
  pub bursts : List Burst
  pub neighbours : List Neighbours
  pub choices : List (List Alternative)

abbrev pub nothing : Passed
nothing = record { bursts = []; neighbours = []; choices = [] }

abbrev pub a_burst : ℕ → List Mark → Passed
a_burst k ms = record { bursts = record { place = k; marks = ms } ∷ []; neighbours = []; choices = [] }

abbrev pub a_meeting : Neighbours → Passed
a_meeting n = record { bursts = []; neighbours = n ∷ []; choices = [] }

abbrev pub a_choice : List Alternative → Passed
a_choice c = record { bursts = []; neighbours = []; choices = c ∷ [] }

-- the one, and then the other
abbrev pub and_then : Passed → Passed → Passed
and_then a b = record { bursts = a.bursts ++ b.bursts; neighbours = a.neighbours ++ b.neighbours; choices = a.choices ++ b.choices }

-- all of a process
abbrev pub all_of : Proc → Passed
all_of p = record { bursts = bursts p; neighbours = neighbours p; choices = choices p }
