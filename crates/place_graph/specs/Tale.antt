-- The story of a trace: the legs that are completed, and how far the leg under way has come.
use Rattle.std.specs.Prelude.{◌≡◌, ◌≢◌, ◌⊎◌, ℕ, ◌+◌, ◌≤◌, nat_eq, if◌then◌else◌, IsTrue, List, [], ◌∷◌, ◌++◌}
use Rattle.cmd_tree.specs.Meaning.{symbols}
use Rattle.cmd_tree.specs.Lists.{is_in}
use Rattle.place_graph.specs.declared.leg.Leg.{Leg}
use Rattle.place_graph.specs.Points.{Among}
use Rattle.place_graph.specs.Walks.{Here, Reaches, begin}

-- 1 where both numbers are the same, and 0 otherwise
abbrev pub one_if : ℕ → ℕ → ℕ
one_if x y = if nat_eq x y then 1 else 0

-- how often the symbol stands in a list
abbrev pub times : ℕ → List ℕ → ℕ
times a [] = 0
times a (b ∷ t) = one_if a b + times a t

-- how often it stands in the legs
abbrev pub times_in : ℕ → List Leg → ℕ
times_in a [] = 0
times_in a (l ∷ past) = times a (symbols l.marks) + times_in a past

-- the legs lead one after another from the point x to the point y, the last one first
abbrev pub Chain : List Leg → ℕ → List Leg → ℕ → Type 0
Chain L x [] y = x ≡ y
Chain L x (l ∷ past) y = Among L l × (l.to ≡ y) × Chain L x past l.from

abbrev pub idle : ℕ → Here
idle x = record { pending = []; point = x }

-- a leg from here is under way: some of its symbols came, and the others are pending
pub record Begun (L : List Leg) (here : ℕ) (came : List ℕ) (state : Here) : Type 0 where
  pub leg : Leg
  pub among : Among L leg
  pub from : leg.from ≡ here
  pub to : leg.to ≡ state.point
  pub some_came : came ≢ []
  pub some_left : state.pending ≢ []
  pub counts : (a : ℕ) → times a (symbols leg.marks) ≡ times a came + times a state.pending

-- After the trace t the legs `past` are completed, the last one first, and lead to the point `here`. Of a
-- leg
-- from there the symbols `came` have come.
pub record Tale (L : List Leg) (t : List ℕ) : Type 0 where
  pub past : List Leg
  pub here : ℕ
  pub came : List ℕ
  pub state : Here
  pub chain : Chain L 1 past here
  pub reached : Reaches L begin t state
  pub counts : (a : ℕ) → times a t ≡ times_in a past + times a came
  pub under : ((came ≡ []) × (state ≡ idle here)) ⊎ Begun L here came state

-- what one symbol adds: it is of a leg from here, which is then under way or completed
pub record Grown (L : List Leg) (t : List ℕ) (a : ℕ) (w : Tale L t) (v : Tale L (t ++ a ∷ [])) : Type 0 where
  pub leg : Leg
  pub among : Among L leg
  pub from : leg.from ≡ w.here
  pub has : IsTrue (is_in a (symbols leg.marks))
  pub within : (b : ℕ) → times b (a ∷ w.came) ≤ times b (symbols leg.marks)
  pub how : ((v.past ≡ w.past) × (v.here ≡ w.here) × (v.came ≡ a ∷ w.came))
      ⊎ ((v.past ≡ leg ∷ w.past) × (v.here ≡ leg.to) × (v.came ≡ [])
      × ((b : ℕ) → times b (symbols leg.marks) ≡ times b (a ∷ w.came)))
