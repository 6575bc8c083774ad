-- The first fault of a list of tokens.
use Rattle.std.specs.Prelude.{◌≡◌, ℕ, ◌+◌, ◌-◌, ◌<◌, ◌≤◌, List, [], ◌∷◌, ◌++◌, ⊤, Option, Some, ◌⊎◌}
use Rattle.cmd_tree.specs.declared.limits.TheConstants.{MAX_OPEN_BRACKETS}
use Rattle.cmd_text.specs.Token.{Token, Open, Close}
use Rattle.cmd_text.specs.File.{Placed}
use Rattle.cmd_text.specs.Text.{tokens, Begins}

pub data Fault : Type 0 where
  BadByte : ℕ → Fault
  BadToken : ℕ → Fault
  Unexpected : ℕ → Fault
  NameTooLong : ℕ → Fault
  TooDeep : ℕ → Fault

-- how many round brackets are open after this token, if n were before
abbrev pub opened_by : ℕ → Token → ℕ
opened_by n Open = n + 1
opened_by n Close = n - 1
opened_by n x = n

-- no more than may be are open after each of these tokens
abbrev pub IsShallow : ℕ → List Token → Type 0
IsShallow n [] = ⊤
IsShallow n (x ∷ xs) = (opened_by n x ≤ MAX_OPEN_BRACKETS) × IsShallow (opened_by n x) xs

abbrev pub opened_after : ℕ → List Token → ℕ
opened_after n [] = n
opened_after n (x ∷ xs) = opened_after (opened_by n x) xs

-- the token x, after these, is the first that is refused, and so is the fault
pub record Refused (before : List Placed) (x : Placed) (f : Fault) : Type 0 where
  pub begins : Begins before
  pub shallow : IsShallow 0 (tokens before)
  pub kind : ((Begins (before ++ x ∷ []) → ⊥) × (f ≡ Unexpected x.at))
      ⊎ (Begins (before ++ x ∷ []) × (MAX_OPEN_BRACKETS < opened_by (opened_after 0 (tokens before)) x.tok) × (f ≡ TooDeep x.at))

-- The fault of these tokens, of which the one after the last may be faulty: a token that is refused, or that one.
pub data IsFault (xs : List Placed) (faulty : Option Fault) (f : Fault) : Type 0 where
  refused : (before : List Placed) (x : Placed) (rest : List Placed) → xs ≡ before ++ x ∷ rest → Refused before x f → IsFault xs faulty f
  spoilt : Begins xs → IsShallow 0 (tokens xs) → faulty ≡ Some f → IsFault xs faulty f
