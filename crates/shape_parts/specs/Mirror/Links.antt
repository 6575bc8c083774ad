-- Lines that are linked to lines of lesser number, and to themselves at the end.
use Rattle.std.specs.Prelude.{◌≡◌, ℕ, ◌<◌, ◌≤◌, List, length, get_or}

-- no link leads to a greater line
abbrev pub IsFalling : List ℕ → Type 0
IsFalling up = (v : ℕ) → v < length up → get_or up v 0 ≤ v

-- The links lead from each line v to f v: they keep f, and f is the line itself at their end.
pub record Leads (f : ℕ → ℕ) (up : List ℕ) : Type 0 where
  pub along : (v : ℕ) → v < length up → f (get_or up v 0) ≡ f v
  pub ends : (v : ℕ) → v < length up → get_or up v 0 ≡ v → f v ≡ v
