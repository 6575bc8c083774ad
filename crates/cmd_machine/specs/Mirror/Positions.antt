-- The states of a position, the moves along legs that lead to them, and the traces that they stand for.
use Rattle.std.specs.Prelude.{◌≡◌, ◌⊎◌, ℕ, suc, ◌<◌, ◌≤◌, Bool, false, List, [], ◌∷◌, length, slice_get, slice_index_or, Option, Some, None, if◌then◌else◌, IsTrue}
use Rattle.std.specs.declared.cmp.Ordering.{Ordering}
use Rattle.std.specs.Ordering.{nat_cmp, ordering_then}
use Rattle.std.specs.BTreeMap.{BTreeMap, get}
use Rattle.cmd_tree.specs.declared.tree.Proc.{Proc}
use Rattle.cmd_tree.specs.Limits.{IsProc}
use Rattle.cmd_tree.specs.Lists.{is_in}
use Rattle.cmd_tree.specs.Meaning.{symbols}
use Rattle.cmd_tree.specs.Residual.{without}
use Rattle.place_graph.specs.declared.leg.Leg.{Leg}
use Rattle.place_graph.specs.Apart.{HasApart}
use Rattle.place_graph.specs.Points.{Among, legs}
use Rattle.place_graph.specs.Tale.{idle}
use Rattle.place_graph.specs.Walks.{Here, Reaches, begin}
use Rattle.cmd_machine.specs.declared.position.Spot.{Spot}
use Rattle.cmd_machine.specs.declared.position.Position.{Position}
use Rattle.cmd_machine.specs.Lawful.{Lawful}

-- ---- the table

-- a symbol, and a point from which a leg with it leads
abbrev pub Key : Type 0
Key = ℕ × ℕ

abbrev pub key_cmp : Key → Key → Ordering
key_cmp x y = ordering_then (nat_cmp x.0 y.0) (nat_cmp x.1 y.1)

-- the spot of the key is that of a mark that is entered
pub record SpotOf (Entered : Leg → ℕ → Type 0) (k : Key) (s : Spot) : Type 0 where
  pub leg : Leg
  pub entered : Entered leg s.index
  pub symbol : slice_get (symbols leg.marks) s.index ≡ Some k.0
  pub from : leg.from ≡ k.1
  pub place : s.place ≡ leg.place
  pub size : s.size ≡ length leg.marks
  pub to : s.to ≡ leg.to

-- for each key of a mark that is entered the table has the spot of such a mark, and no others
pub record Finds (Entered : Leg → ℕ → Type 0) (at : Key → Option Spot) : Type 0 where
  pub sound : (k : Key) (s : Spot) → at k ≡ Some s → SpotOf Entered k s
  pub whole : (l : Leg) (i a : ℕ) → Entered l i → slice_get (symbols l.marks) i ≡ Some a
      → at (a, l.from) ≡ None → ⊥

-- the marks of these legs, and the first n of one more
abbrev pub OfLegs : List Leg → Leg → ℕ → Leg → ℕ → Type 0
OfLegs L leg n l i = Among L l ⊎ ((l ≡ leg) × (i < n))

abbrev pub FindsLegs : List Leg → BTreeMap Key Spot → Type 0
FindsLegs L table = Finds (λ l i. Among L l) (get key_cmp table)

-- ---- the state

-- the symbols whose bits are set
abbrev pub kept : (ℕ → Bool) → List ℕ → List ℕ
kept bit [] = []
kept bit (a ∷ xs) = if bit 0 then a ∷ kept (λ i. bit (suc i)) xs else kept (λ i. bit (suc i)) xs

abbrev pub bits_of : List Bool → ℕ → Bool
bits_of bits i = slice_index_or bits i false

-- a leg from the point is under way, and what is left of it is pending
pub record UnderWay (L : List Leg) (m : Position) (c : Here) : Type 0 where
  pub leg : Leg
  pub among : Among L leg
  pub from : leg.from ≡ m.point
  pub place : leg.place ≡ m.under_way
  pub pending : c.pending ≡ kept (bits_of m.to_come.items) (symbols leg.marks)
  pub to : c.point ≡ leg.to
  pub left : m.left ≡ length c.pending

-- the state c of the moves along these legs
pub record IsAt (L : List Leg) (m : Position) (c : Here) : Type 0 where
  pub found : FindsLegs L m.spots
  pub room : (l : Leg) → Among L l → length l.marks ≤ length m.to_come.items
  pub state : ((m.left ≡ 0) × (c ≡ idle m.point)) ⊎ ((0 < m.left) × UnderWay L m c)

-- a leg is under way in the state e, and the spot is that of its symbol a, which is pending
pub record IsOpen (L : List Leg) (m : Position) (a : ℕ) (s : Spot) (e : Here) : Type 0 where
  pub found : FindsLegs L m.spots
  pub room : (l : Leg) → Among L l → length l.marks ≤ length m.to_come.items
  pub under : UnderWay L m e
  pub pends : IsTrue (is_in a e.pending)
  pub symbol : slice_get (symbols under.leg.marks) s.index ≡ Some a
  pub to : s.to ≡ under.leg.to

abbrev pub after : ℕ → Here → Here
after a e = record { pending = without a e.pending; point = e.point }

-- ---- the traces

-- the position stands for the trace t of the process p
pub record Stands (p : Proc) (m : Position) (t : List ℕ) : Type 0 where
  pub whole : IsProc p
  pub apart : HasApart p
  pub lawful : Lawful (legs p)
  pub state : Here
  pub reached : Reaches (legs p) begin t state
  pub is_at : IsAt (legs p) m state
