-- What the networks of one process rest on: facts on its legs, and on the story of each trace.
use Rattle.std.specs.Prelude.{◌≡◌, ◌≢◌, ◌⊎◌, ℕ, ◌+◌, ◌<◌, ◌≤◌, Bool, true, false, not, nat_eq, if◌then◌else◌, IsTrue, List, [], ◌∷◌, ◌++◌, length, ⊤}
use Rattle.std.specs.List.{AllByRecursion}
use Rattle.cmd_tree.specs.Meaning.{symbols}
use Rattle.cmd_tree.specs.Lists.{is_in}
use Rattle.place_graph.specs.declared.leg.Leg.{Leg}
use Rattle.place_graph.specs.Points.{Among}
use Rattle.place_graph.specs.Graph.{is_act}
use Rattle.place_graph.specs.Tale.{one_if, times, Tale, Grown}

-- ---- legs

-- a leg has the symbol
abbrev pub Has : Leg → ℕ → Type 0
Has l a = IsTrue (is_in a (symbols l.marks))

-- the legs stand at increasing places, so that none stands there twice
abbrev pub Increase : List Leg → Type 0
Increase [] = ⊤
Increase (l ∷ L) = AllByRecursion (λ m. l.place < m.place) L × Increase L

-- a leg of the other direction leads on from where l leads
pub record LeadsOn (L : List Leg) (l : Leg) : Type 0 where
  pub next : Leg
  pub among : Among L next
  pub from : next.from ≡ l.to
  pub turns : is_act next ≡ not (is_act l)

-- The legs of a fair process. The symbols a with `out a` are the outputs.
pub record Chart (L : List Leg) (out : ℕ → Bool) : Type 0 where
  pub increase : Increase L
  -- each leg has symbols, of one direction, and each once
  pub some : (l : Leg) → Among L l → 0 < length l.marks
  pub dirs : (l : Leg) (a : ℕ) → Among L l → Has l a → out a ≡ is_act l
  pub few : (l : Leg) (a : ℕ) → Among L l → times a (symbols l.marks) ≤ 1
  -- an act is alone at its point
  pub lone : (m l : Leg) → Among L m → Among L l → is_act m ≡ true → l.from ≡ m.from → l ≡ m
  -- legs from one point share no symbol
  pub one : (l m : Leg) (a : ℕ) → Among L l → Among L m → l.from ≡ m.from → Has l a → Has m a → l ≡ m
  -- where a leg leads, legs of the other direction lead on, or the process ends
  pub leads : (l : Leg) → Among L l → LeadsOn L l ⊎ ((m : Leg) → Among L m → m.from ≢ l.to)

-- Each input belongs to one burst as a set, its home, and `key l` is the burst of the leg l.
pub record Homes (L : List Leg) (key : Leg → ℕ) (home : ℕ → ℕ) : Type 0 where
  pub homes : (l : Leg) (a : ℕ) → Among L l → is_act l ≡ false → Has l a → home a ≡ key l
  pub keys : (l m : Leg) (a : ℕ) → Among L l → Among L m → is_act l ≡ false → is_act m ≡ false
      → key l ≡ key m → Has l a → Has m a

-- ---- traces

-- the sum of f over the legs that pass the test
abbrev pub sum_where : List Leg → (Leg → Bool) → (Leg → ℕ) → ℕ
sum_where [] test f = 0
sum_where (l ∷ L) test f = (if test l then f l else 0) + sum_where L test f

abbrev pub to_at : ℕ → Leg → Bool
to_at x l = nat_eq x l.to

abbrev pub from_at : ℕ → Leg → Bool
from_at x l = nat_eq x l.from

abbrev pub in_leg : ℕ → Leg → Bool
in_leg a l = is_in a (symbols l.marks)

-- how often a leg is completed; a leg is known by its place
abbrev pub done : List Leg → Leg → ℕ
done [] l = 0
done (m ∷ past) l = one_if l.place m.place + done past l

-- a leg from here is under way: all that came is of it, and some of it is still to come
pub record Under (L : List Leg) (here : ℕ) (came : ℕ → ℕ) : Type 0 where
  pub leg : Leg
  pub among : Among L leg
  pub from : leg.from ≡ here
  pub of_it : (a : ℕ) → came a ≢ 0 → Has leg a
  pub left : ℕ
  pub of_left : Has leg left
  pub to_come : came left ≡ 0

-- how often each leg is completed, the point that is reached, and how often each symbol of the leg under
-- way came
pub record Stands (L : List Leg) (completed : Leg → ℕ) (here : ℕ) (came : ℕ → ℕ) : Type 0 where
  -- to a point lead as many completed legs as from it, where the begin counts as one that leads to the
  -- point 1, and one more leads to the point that is reached
  pub flow : (x : ℕ) → one_if x 1 + sum_where L (to_at x) completed
      ≡ sum_where L (from_at x) completed + one_if x here
  pub few : (a : ℕ) → came a ≤ 1
  pub under : ((a : ℕ) → came a ≡ 0) ⊎ Under L here came

-- the next tale, and what it adds
pub record Grows (L : List Leg) (t : List ℕ) (a : ℕ) (w : Tale L t) : Type 0 where
  pub next : Tale L (t ++ a ∷ [])
  pub grown : Grown L t a w next

-- Each trace of T has a tale, which a further symbol makes grow.
pub record Plays (L : List Leg) (T : List ℕ → Type 0) : Type 0 where
  pub first : Tale L []
  pub first_past : first.past ≡ []
  pub first_came : first.came ≡ []
  pub stands : (t : List ℕ) (w : Tale L t) → Stands L (done w.past) w.here (λ a. times a w.came)
  -- each completed leg gave each of its symbols once
  pub sums : (t : List ℕ) (w : Tale L t) (a : ℕ)
      → times a t ≡ sum_where L (in_leg a) (done w.past) + times a w.came
  pub grows : (t : List ℕ) (a : ℕ) (w : Tale L t) → T (t ++ a ∷ []) → Grows L t a w
  -- a symbol of the act that leads from here may come where it has not
  pub shows : (t : List ℕ) (a : ℕ) (w : Tale L t) (m : Leg) → Among L m → m.from ≡ w.here → is_act m ≡ true
      → Has m a → times a w.came ≡ 0 → T (t ++ a ∷ [])
