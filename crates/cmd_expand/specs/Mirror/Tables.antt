-- What the tables of the code have, for a renaming.
use Rattle.std.specs.Prelude.{◌≡◌, ℕ, zero, suc, List, [], ◌∷◌, Option, Some, None}
use Rattle.cmd_rename.specs.Table.{entry}
use Rattle.cmd_expand.specs.declared.pairs.Pair.{Pair}
use Rattle.cmd_expand.specs.Pairs.{renamed, count_of}

abbrev pub or_same : Option ℕ → ℕ → ℕ
or_same None a = a
or_same (Some k) a = k

-- the table has the new name of each symbol that the pairs rename
abbrev pub Renames : List (Option ℕ) → List Pair → Type 0
Renames t pairs = (a : ℕ) → or_same (entry t a) a ≡ renamed pairs a

-- nothing, 1 or 2: none, one or more
abbrev pub tally : ℕ → Option ℕ
tally zero = None
tally (suc zero) = Some 1
tally (suc (suc n)) = Some 2

-- the table tells of each number whether it stands not at all, once or more often in the list
abbrev pub Tallies : List (Option ℕ) → List ℕ → Type 0
Tallies t xs = (a : ℕ) → entry t a ≡ tally (count_of a xs)

abbrev pub old_names_behind : List ℕ → List Pair → List ℕ
old_names_behind es [] = es
old_names_behind es (p ∷ ps) = old_names_behind (p.was ∷ es) ps

-- the old names of the pairs, the last first
abbrev pub old_names : List Pair → List ℕ
old_names ps = old_names_behind [] ps
