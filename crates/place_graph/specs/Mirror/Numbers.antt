-- Mirror of the tables of numbers that the code keeps.
use Rattle.std.specs.Prelude.{◌≡◌, ℕ, ◌+◌, ◌<◌, ◌^◌, false, List, length, Option, None, position, slice_index_or}
use Rattle.cmd_tree.specs.declared.tree.Sym.{Sym}
use Rattle.std.specs.List.{AllByRecursion}
use Rattle.cmd_tree.specs.declared.limits.TheConstants.{MAX_SYMBOLS}
use Rattle.place_graph.specs.declared.leg.Leg.{Leg}
use Rattle.place_graph.specs.declared.numbers.BurstNumbers.{BurstNumbers}
use Rattle.place_graph.specs.Points.{Among}
use Rattle.place_graph.specs.Graph.{is_act, syms, bursts_of, number_at, has_sym}
use Rattle.place_graph.specs.Drawable.{AreSets}

-- points in the order in which they came, and a bound that they are below
pub record PointNumbers : Type 0 where
  pub points : List ℕ
  pub bound : ℕ

-- the number of each point, where it has one
pub record AreNumbers (numbers : List (Option ℕ)) (points : List ℕ) : Type 0 where
  pub few : length points < 2 ^ 32
  pub each : (x : ℕ) → x < length numbers → slice_index_or numbers x None ≡ number_at x points

-- the number of the first burst that has each symbol
abbrev pub AreBurstNumbers : List (Option ℕ) → List (List Sym) → Type 0
AreBurstNumbers numbers bursts = (a : ℕ) → a < length numbers
    → slice_index_or numbers a None ≡ position (has_sym (record { 0 = a })) bursts

-- few legs between points below a bound, each with symbols that are below their bound
pub record AreNumerable (L : List Leg) (bound : ℕ) : Type 0 where
  pub few : length L + 1 < 2 ^ 32
  pub within : (l : Leg) → Among L l → (l.from < bound) × (l.to < bound)
  pub some : (l : Leg) → Among L l → 0 < length l.marks
  pub symbols : (l : Leg) → Among L l → AllByRecursion (λ m. m.sym.0 < MAX_SYMBOLS) l.marks
  pub sets : AreSets L

-- b is an input burst
pub record IsInput (L : List Leg) (b : List Sym) : Type 0 where
  pub leg : Leg
  pub among : Among L leg
  pub takes : is_act leg ≡ false
  pub burst : syms leg.marks ≡ b

-- the numbers of the input bursts
pub record AreNumbersOf (L : List Leg) (n : BurstNumbers) : Type 0 where
  pub bursts : n.bursts ≡ bursts_of L
  pub sized : length n.numbers.items ≡ MAX_SYMBOLS
  pub numbers : AreBurstNumbers n.numbers.items n.bursts
