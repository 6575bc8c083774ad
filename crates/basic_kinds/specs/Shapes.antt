-- What the type `Shape` keeps.
use Rattle.std.specs.Prelude.{ℕ, ◌<◌, Bool, true, ◌&&◌, ◌||◌, nat_lt, nat_eq, IsTrue, List, [], ◌∷◌}
use Rattle.std.specs.List.{list_all, list_any}
use Rattle.std.specs.Coded.{le_prop}
use Rattle.std.proofs.Math.Dec.{T_prop}
use denote.Struct.Props.{props}

-- a crossing stands before another: in an earlier row, or in the same row at an earlier column
abbrev pub is_before : ℕ × ℕ → ℕ × ℕ → Bool
is_before p q = nat_lt p.0 q.0 || (nat_eq p.0 q.0 && nat_lt p.1 q.1)

-- each crossing stands before all that follow it
abbrev pub is_rising : List (ℕ × ℕ) → Bool
is_rising [] = true
is_rising (p ∷ ps) = list_all (is_before p) ps && is_rising ps

abbrev pub is_within : ℕ → ℕ → ℕ × ℕ → Bool
is_within rows cols p = nat_lt p.0 rows && nat_lt p.1 cols

pub record IsShape (rows cols : ℕ) (cross : List (ℕ × ℕ)) : Type 0 where
  pub some_row : 0 < rows
  pub some_column : 0 < cols
  pub rising : IsTrue (is_rising cross)
  pub within : IsTrue (list_all (is_within rows cols) cross)
  pub each_row : (i : ℕ) → i < rows → IsTrue (list_any (λ p. nat_eq p.0 i) cross)
  pub each_column : (j : ℕ) → j < cols → IsTrue (list_any (λ p. nat_eq p.1 j) cross)

pub IsShape-prop : (rows cols : ℕ) (cross : List (ℕ × ℕ)) → IsProp (IsShape rows cols cross)
IsShape-prop rows cols cross = hlevel (le_prop, T_prop, props)
