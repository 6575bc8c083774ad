-- Lists of numbers.
use Rattle.std.specs.Prelude.{ℕ, Bool, nat_eq, List}
use Rattle.std.specs.List.{list_any}

-- whether the number a stands in the list
abbrev pub is_in : ℕ → List ℕ → Bool
is_in a xs = list_any (nat_eq a) xs
