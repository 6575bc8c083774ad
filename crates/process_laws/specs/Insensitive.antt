-- The five rules of delay-insensitivity, for a set of traces whose symbols have directions.
use Rattle.std.specs.Prelude.{◌≡◌, ◌≢◌, ℕ, Bool, List, [], ◌∷◌, ◌++◌}

-- The symbols a with `out a` are the outputs, and the others the inputs.
pub record Insensitive (T : List ℕ → Type 0) (out : ℕ → Bool) : Type 0 where
  -- The set is not empty, and has each beginning of a trace.
  pub empty : T []
  pub prefix : (t u : List ℕ) → T (t ++ u) → T t
  -- No symbol comes twice in a row: a signal may not catch up with another on the same wire.
  pub twice : (t : List ℕ) (a : ℕ) → T (t ++ a ∷ a ∷ []) → ⊥
  -- Neighbours of one direction may come in the other order: the wires may have any delays.
  pub swap : (t u : List ℕ) (a b : ℕ) → out a ≡ out b → T (t ++ a ∷ b ∷ u) → T (t ++ b ∷ a ∷ u)
  -- Where neighbours a and b of different directions may come in both orders, and then u, a symbol c of
  -- the direction of a that may follow one order may follow the other.
  pub carry : (t u : List ℕ) (a b c : ℕ) → out a ≢ out b → out a ≡ out c
      → T (t ++ a ∷ b ∷ (u ++ c ∷ [])) → T (t ++ b ∷ a ∷ u) → T (t ++ b ∷ a ∷ (u ++ c ∷ []))
  -- Symbols of different directions do not disable each other.
  pub both : (t : List ℕ) (a b : ℕ) → out a ≢ out b → T (t ++ a ∷ []) → T (t ++ b ∷ []) → T (t ++ a ∷ b ∷ [])
