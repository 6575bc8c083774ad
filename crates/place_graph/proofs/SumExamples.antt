-- Sums that are known from elsewhere, by reckoning.
use Rattle.std.specs.Prelude.{ℕ, ◌≡◌, refl, List, [], ◌∷◌, Some, None}
use Rattle.cmd_tree.specs.declared.tree.Mark.{Mark}
use Rattle.cmd_tree.specs.declared.tree.Proc.{Proc}
use Rattle.cmd_tree.specs.Tree.{TSeq, TBurst, Done, Then}
use Rattle.cmd_tree.specs.Marks.{input, output}
use Rattle.basic_kinds.specs.Sorts.{Sort, Wires, Iwires, Sources, Forks, Joins, Merges, Toggles, Waits, Sequencers}
use Rattle.basic_kinds.specs.Sums.{wide_sum, two_way_sum}
use Rattle.place_graph.specs.Sums.{command_sum}

-- one mark after the other
abbrev pub in_turn : List Mark → TSeq
in_turn [] = Done
in_turn (m ∷ ms) = Then (TBurst (m ∷ [])) (in_turn ms)

abbrev pub turns_of : List Mark → List Proc
turns_of ms = record { lead = None; body = Some (in_turn ms) } ∷ []

abbrev pub sums_of : (Sort → ℕ) → List ℕ
sums_of sum = sum Wires ∷ sum Iwires ∷ sum Sources ∷ sum Forks ∷ sum Joins ∷ sum Merges ∷ sum Toggles ∷ sum Waits ∷ sum Sequencers ∷ []

-- pref*[a?;b!]
pub wire : sums_of (command_sum wide_sum (turns_of (input 0 ∷ output 1 ∷ [])) 2) ≡ 1 ∷ 0 ∷ 0 ∷ 0 ∷ 0 ∷ 0 ∷ 0 ∷ 0 ∷ 0 ∷ []
unfolding lib.Count.ones
wire = refl

-- pref*[b!;a?]
pub lead : sums_of (command_sum wide_sum (turns_of (output 0 ∷ input 1 ∷ [])) 2) ≡ 0 ∷ 1 ∷ 0 ∷ 0 ∷ 0 ∷ 0 ∷ 0 ∷ 0 ∷ 0 ∷ []
unfolding lib.Count.ones
lead = refl

-- pref*[a?;b!;a?;c!]
pub two_rounds : sums_of (command_sum wide_sum (turns_of (input 0 ∷ output 1 ∷ input 0 ∷ output 2 ∷ [])) 3) ≡ 0 ∷ 0 ∷ 0 ∷ 0 ∷ 0 ∷ 0 ∷ 1 ∷ 0 ∷ 0 ∷ []
unfolding lib.Count.ones
two_rounds = refl

-- pref*[a?;b!;c?;d!]
pub two_waits : sums_of (command_sum wide_sum (turns_of (input 0 ∷ output 1 ∷ input 2 ∷ output 3 ∷ [])) 4) ≡ 0 ∷ 1 ∷ 0 ∷ 2 ∷ 2 ∷ 0 ∷ 0 ∷ 0 ∷ 0 ∷ []
unfolding lib.Count.ones
two_waits = refl

-- pref*[a?;b!;a?;b!;a?;c!], in both bases
pub three_rounds : sums_of (command_sum wide_sum (turns_of (input 0 ∷ output 1 ∷ input 0 ∷ output 1 ∷ input 0 ∷ output 2 ∷ [])) 3) ≡ 0 ∷ 1 ∷ 0 ∷ 3 ∷ 0 ∷ 1 ∷ 0 ∷ 1 ∷ 0 ∷ []
unfolding lib.Count.ones
three_rounds = refl

pub three_rounds_split : sums_of (command_sum two_way_sum (turns_of (input 0 ∷ output 1 ∷ input 0 ∷ output 1 ∷ input 0 ∷ output 2 ∷ [])) 3) ≡ 0 ∷ 1 ∷ 0 ∷ 5 ∷ 0 ∷ 2 ∷ 0 ∷ 2 ∷ 0 ∷ []
unfolding lib.Count.ones
three_rounds_split = refl
