-- Sums that are known from elsewhere, by reckoning.
use Rattle.std.specs.Prelude.{ℕ, ◌≡◌, refl, List, [], ◌∷◌}
use Rattle.basic_kinds.specs.Sorts.{Sort, Iwires, Forks, Joins, Merges, Waits, Sequencers}
use Rattle.basic_kinds.specs.ShapeParts.{one_column}
use Rattle.basic_kinds.specs.Sums.{wait_sum, sequencer_sum}

abbrev pub sums_of : (Sort → ℕ) → List ℕ
sums_of sum = sum Forks ∷ sum Joins ∷ sum Merges ∷ sum Waits ∷ sum Iwires ∷ sum Sequencers ∷ []

pub rows_3 : sums_of (wait_sum 3 1 (one_column 3)) ≡ 2 ∷ 0 ∷ 1 ∷ 2 ∷ 0 ∷ 0 ∷ []
rows_3 = refl

pub rows_4 : sums_of (wait_sum 4 1 (one_column 4)) ≡ 4 ∷ 0 ∷ 2 ∷ 3 ∷ 0 ∷ 0 ∷ []
rows_4 = refl

pub rows_7 : sums_of (wait_sum 7 1 (one_column 7)) ≡ 13 ∷ 0 ∷ 8 ∷ 6 ∷ 0 ∷ 0 ∷ []
rows_7 = refl

pub requests_3 : sums_of (sequencer_sum 3) ≡ 4 ∷ 0 ∷ 2 ∷ 1 ∷ 1 ∷ 2 ∷ []
requests_3 = refl
