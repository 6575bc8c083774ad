-- What a sink has written, where it tells that: told bytes are a premise of each fact.
use Rattle.std.specs.Prelude.{◌≡◌, ℕ, List, ◌++◌, Option, Some}

-- where the sink told its bytes before, it now tells them followed by this text
abbrev pub Gains : Option (List ℕ) → Option (List ℕ) → List ℕ → Type 0
Gains old new text = (before : List ℕ) → old ≡ Some before → new ≡ Some (before ++ text)

-- some front of the text was gained
pub record Front (text before : List ℕ) (new : Option (List ℕ)) : Type 0 where
  pub front : List ℕ
  pub rest : List ℕ
  pub whole : front ++ rest ≡ text
  pub is : new ≡ Some (before ++ front)

-- where the sink told its bytes before, it now tells them followed by a front of this text
abbrev pub GainsFront : Option (List ℕ) → Option (List ℕ) → List ℕ → Type 0
GainsFront old new text = (before : List ℕ) → old ≡ Some before → Front text before new
