-- One direction comes at a time, and its symbols in any order.
-- Processes with alternating bursts keep this, and grants too.
use Rattle.std.specs.Prelude.{◌≡◌, Bool, List, [], ◌∷◌, ◌++◌}

-- The symbols a with `out a` are the outputs, and the others the inputs.
pub record Phased (A : Type 0) (out : A → Bool) (T : List A → Type 0) : Type 0 where
  pub empty : T []
  pub prefix : (t u : List A) → T (t ++ u) → T t
  -- no symbol comes twice in a row
  pub twice : (t : List A) (a : A) → T (t ++ a ∷ a ∷ []) → ⊥
  -- neighbours of one direction may come in the other order
  pub swap : (t u : List A) (a b : A) → out a ≡ out b → T (t ++ a ∷ b ∷ u) → T (t ++ b ∷ a ∷ u)
  -- after a trace inputs alone may come, or outputs alone
  pub one : (t : List A) (a b : A) → T (t ++ a ∷ []) → T (t ++ b ∷ []) → out a ≡ out b
