-- How inputs and outputs take turns in a set of traces, with no choice of the order within a turn.
use Rattle.std.specs.Prelude.{◌≡◌, ℕ, ◌≤◌, Bool, true, false, nat_eq, List, [], ◌∷◌, ◌++◌, count_by}
use Rattle.std.specs.List.{AllByRecursion}
use Rattle.cmd_tree.specs.Lists.{is_in}

-- The symbols a with `out a` are the outputs, and the others the inputs.
pub record Steady (T : List ℕ → Type 0) (out : ℕ → Bool) : Type 0 where
  -- nothing need come
  pub empty : T []
  -- each beginning of a trace is a trace
  pub prefix : (t u : List ℕ) → T (t ++ u) → T t
  -- after a trace inputs alone may come, or outputs alone
  pub one_way : (t : List ℕ) (a b : ℕ) → T (t ++ a ∷ []) → T (t ++ b ∷ []) → out a ≡ out b
  -- within a stretch of one direction each symbol comes at most once
  pub once : (t u : List ℕ) (way : Bool) → T (t ++ u) → AllByRecursion (λ a. out a ≡ way) u
      → (a : ℕ) → count_by (nat_eq a) u ≤ 1
  -- neighbours of one direction may come in the other order, and all that follows is the same
  pub swaps : (t u : List ℕ) (a b : ℕ) → out a ≡ out b → T (t ++ a ∷ b ∷ u) → T (t ++ b ∷ a ∷ u)
  -- an output that may come may still come after other outputs
  pub stays : (t u : List ℕ) (a : ℕ) → out a ≡ true → T (t ++ a ∷ []) → T (t ++ u)
      → AllByRecursion (λ b. out b ≡ true) u → is_in a u ≡ false → T (t ++ (u ++ a ∷ []))
