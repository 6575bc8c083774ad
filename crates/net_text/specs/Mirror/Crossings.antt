-- Mirror of the test of crossings.
use Rattle.std.specs.Prelude.{ℕ, Bool, true, false, ◌&&◌, nat_lt, List, [], ◌∷◌}
use Rattle.std.specs.List.{list_all}
use Rattle.basic_kinds.specs.Shapes.{is_before, is_rising, is_within}

-- each of the crossings stands before the next
abbrev pub is_chain : ℕ × ℕ → List (ℕ × ℕ) → Bool
is_chain p [] = true
is_chain p (q ∷ qs) = is_before p q && is_chain q qs

-- there are rows and columns, and the crossings rise and lie within
abbrev pub is_placed : ℕ → ℕ → List (ℕ × ℕ) → Bool
is_placed rows cols cross = nat_lt 0 rows && nat_lt 0 cols && is_rising cross && list_all (is_within rows cols) cross

-- its row, or its column
abbrev pub side : Bool → ℕ × ℕ → ℕ
side true p = p.0
side false p = p.1
