-- Walks along legs, and the traces that they make.
use Rattle.std.specs.Prelude.{◌≡◌, ℕ, IsTrue, List, [], ◌∷◌, ◌++◌, ⊤, IsPermutation}
use Rattle.cmd_tree.specs.Meaning.{symbols}
use Rattle.cmd_tree.specs.Lists.{is_in}
use Rattle.cmd_tree.specs.Residual.{without}
use Rattle.place_graph.specs.declared.leg.Leg.{Leg}
use Rattle.place_graph.specs.Points.{Among}

-- A walk from a point. It ends there, or goes along a leg from there, whose symbols come in any order, and
-- on
-- from where the leg leads.
pub data Walk (L : List Leg) : ℕ → List ℕ → Type 0 where
  ends : (x : ℕ) → Walk L x []
  goes : (x : ℕ) (l : Leg) (t u v : List ℕ) → Among L l → l.from ≡ x → t ≡ u ++ v
      → IsPermutation (symbols l.marks) u → Walk L l.to v → Walk L x t

-- a front of a walk from the begin
abbrev pub GraphTrace : List Leg → List ℕ → Type 0
GraphTrace L t = (u : List ℕ) × Walk L 1 (t ++ u)

-- where a walk is: symbols of a leg under way are pending, and then it is at a point
pub record Here : Type 0 where
  pub pending : List ℕ
  pub point : ℕ

-- by the symbol a: it is pending, or it is of a leg from here
pub data Move (L : List Leg) : Here → ℕ → Here → Type 0 where
  within : (c : Here) (a : ℕ) → IsTrue (is_in a c.pending)
      → Move L c a (record { pending = without a c.pending; point = c.point })
  leaves : (c : Here) (a : ℕ) (l : Leg) → c.pending ≡ [] → Among L l → l.from ≡ c.point
      → IsTrue (is_in a (symbols l.marks))
      → Move L c a (record { pending = without a (symbols l.marks); point = l.to })

-- the symbols of t are moves one after another
abbrev pub Moves : List Leg → Here → List ℕ → Type 0
Moves L c [] = ⊤
Moves L c (a ∷ t) = (d : Here) × Move L c a d × Moves L d t

-- moves by the symbols of t lead from c to d
abbrev pub Reaches : List Leg → Here → List ℕ → Here → Type 0
Reaches L c [] d = c ≡ d
Reaches L c (a ∷ t) d = (e : Here) × Move L c a e × Reaches L e t d

abbrev pub begin : Here
begin = record { pending = []; point = 1 }
