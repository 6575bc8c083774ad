-- The rows of a decision wait, or its columns: how often each has come beside how often its outputs have.
use Rattle.std.specs.Prelude.{◌≡◌, ℕ, suc, ◌<◌}

-- f i is how often side i has come, and g i how often its outputs have
abbrev pub Even : ℕ → (ℕ → ℕ) → (ℕ → ℕ) → Type 0
Even n f g = (i : ℕ) → i < n → f i ≡ g i

-- side k alone is pending
pub record Ahead (n : ℕ) (f g : ℕ → ℕ) (k : ℕ) : Type 0 where
  pub within : k < n
  pub here : f k ≡ suc (g k)
  pub others : (i : ℕ) → i < n → (i ≡ k → ⊥) → f i ≡ g i
