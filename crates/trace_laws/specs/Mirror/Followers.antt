-- The symbols of one direction that may follow each listed trace, and the listed traces that lack a sibling.
use Rattle.std.specs.Prelude.{◌≡◌, ◌≢◌, ◌⊎◌, ◌↔◌, ◌<◌, ℕ, Bool, List, [], ◌∷◌, ◌++◌, length, get_or, Option, Some, None}
use Rattle.std.specs.List.{Contains}
use Rattle.trace_laws.specs.Mirror.Faults.{front, last_of}

abbrev pub RowHas : Option (List ℕ) → ℕ → Type 0
RowHas None b = ⊥
RowHas (Some row) b = Contains row b

-- `was` and the symbol `last` behind `at`
abbrev pub Added : (List ℕ → Option (List ℕ)) → (List ℕ → Option (List ℕ)) → List ℕ → ℕ → Type 0
Added was now at last = (s : List ℕ) (b : ℕ) → RowHas (now s) b ↔ (RowHas (was s) b ⊎ ((s ≡ at) × (b ≡ last)))

-- `was` and the last symbol of x, if it has this direction
abbrev pub Entered : (ℕ → Bool) → Bool → List ℕ → (List ℕ → Option (List ℕ)) → (List ℕ → Option (List ℕ)) → Type 0
Entered out side x was now = (s : List ℕ) (b : ℕ) → RowHas (now s) b ↔ (RowHas (was s) b ⊎ ((out b ≡ side) × (x ≡ s ++ b ∷ [])))

-- the last symbols of the first n listed traces
abbrev pub FollowUpTo : (ℕ → Bool) → Bool → List (List ℕ) → ℕ → (List ℕ → Option (List ℕ)) → Type 0
FollowUpTo out side words n rows = (s : List ℕ) (b : ℕ) → RowHas (rows s) b ↔ ((out b ≡ side) × ((j : ℕ) × (j < n) × (get_or words j [] ≡ s ++ b ∷ [])))

-- a symbol of this direction may come in place of the last symbol of x, and not behind it
pub record Lacks (out : ℕ → Bool) (side : Bool) (words : List (List ℕ)) (x : List ℕ) : Type 0 where
  pub some : 0 < length x
  pub turned : out (last_of x) ≢ side
  pub sibling : ℕ
  pub of_side : out sibling ≡ side
  pub may : Contains words (front x ++ sibling ∷ [])
  pub missing : Contains words (x ++ sibling ∷ []) → ⊥

abbrev pub LacksOf : (ℕ → Bool) → Bool → List (List ℕ) → List ℕ → List ℕ → Type 0
LacksOf out side words x t = (t ≡ x) × Lacks out side words x

-- a symbol of the row may not follow x
abbrev pub LacksOneOf : List (List ℕ) → List ℕ → List ℕ → Type 0
LacksOneOf words row x = (b : ℕ) × Contains row b × (Contains words (x ++ b ∷ []) → ⊥)
