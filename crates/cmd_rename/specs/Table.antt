-- The numbers that a table has for symbols: of the first as many as it has memory for, some.
use Rattle.std.specs.Prelude.{◌≡◌, ℕ, zero, suc, List, [], ◌∷◌, Option, Some, None, is_some}
use Rattle.cmd_tree.specs.Lists.{is_in}

-- the number of the symbol a
abbrev pub entry : List (Option ℕ) → ℕ → Option ℕ
entry [] a = None
entry (e ∷ es) zero = e
entry (e ∷ es) (suc a) = entry es a

abbrev pub or_zero : Option ℕ → ℕ
or_zero None = 0
or_zero (Some k) = k

-- the number of the symbol a, or 0
abbrev pub number_by : List (Option ℕ) → ℕ → ℕ
number_by t a = or_zero (entry t a)

-- the table has a number for the symbols of the list, and for no other
abbrev pub IsListed : List (Option ℕ) → List ℕ → Type 0
IsListed t xs = (a : ℕ) → is_some (entry t a) ≡ is_in a xs
