-- The least of the traces that were offered so far.
use Rattle.std.specs.Prelude.{◌≡◌, ◌<◌, ◌⊎◌, ℕ, List, Option, Some, None}
use Rattle.trace_laws.specs.Breaks.{Precedes}

-- no trace that was passed over comes before the least
abbrev pub NotBefore : List ℕ → Option (List ℕ) → Type 0
NotBefore u None = ⊥
NotBefore u (Some t) = Precedes u t → ⊥

-- the least became `now` while all traces of F were offered
pub record Improved (F : List ℕ → Type 0) (was now : Option (List ℕ)) : Type 0 where
  pub from : (now ≡ was) ⊎ ((t : List ℕ) × (now ≡ Some t) × F t)
  pub covers : (u : List ℕ) → F u → NotBefore u now
  pub keeps : (u : List ℕ) → NotBefore u was → NotBefore u now

-- the least of the traces of F
abbrev pub LeastOf : (List ℕ → Type 0) → Option (List ℕ) → Type 0
LeastOf F None = (u : List ℕ) → F u → ⊥
LeastOf F (Some t) = F t × ((u : List ℕ) → F u → Precedes u t → ⊥)

-- t is of one of the first families
abbrev pub Below : (ℕ → List ℕ → Type 0) → ℕ → List ℕ → Type 0
Below F i t = (k : ℕ) × (k < i) × F k t
