-- What is known while input bursts are searched for overlaps.
use Rattle.std.specs.Prelude.{◌≡◌, ◌≢◌, ◌⊎◌, ℕ, ◌+◌, ◌<◌, ◌≤◌, List, [], ◌∷◌, ◌++◌, Option, Some, None, length}
use Rattle.cmd_tree.specs.declared.tree.Mark.{Mark}
use Rattle.tree_walk.specs.Bursts.{Burst}
use Rattle.di_grammar.specs.declared.clash.Clash.{Clash}
use Rattle.di_grammar.specs.Clashes.{First}
use Rattle.di_grammar.specs.Lists.{Each, EachTwo, Within, InOrder}
use Rattle.di_grammar.specs.Bursts.{Has, Overlap}
use Rattle.di_grammar.specs.Overlaps.{EqualOrDisjoint}
use Rattle.di_grammar.specs.Mirror.Laid.{IsSmall}

-- the symbols of a burst differ
abbrev pub Distinct : Burst → Type 0
Distinct b = EachTwo (λ m n. m.sym.0 ≢ n.sym.0) b.marks

-- the one ends before the other
abbrev pub EndsBefore : Burst → Burst → Type 0
EndsBefore f g = f.place + length f.marks ≤ g.place

-- a is in the burst at this place and of this size, and in no earlier one
pub record FirstHas (bs : List Burst) (a place size : ℕ) : Type 0 where
  pub burst : Burst
  pub within : Within bs burst
  pub has : Has burst a
  pub placed : place ≡ burst.place
  pub sized : size ≡ length burst.marks
  pub first : (g : Burst) → Within bs g → Has g a → place ≤ g.place

-- where and how large the first burst is that has a; place 0 where none has
abbrev pub Stood : List Burst → ℕ → ℕ → ℕ → Type 0
Stood bs a place size =
    ((place ≡ 0) × ((f : Burst) → Within bs f → Has f a → ⊥)) ⊎ ((0 < place) × FirstHas bs a place size)

abbrev pub StoodAll : List Burst → (ℕ → ℕ) → (ℕ → ℕ) → Type 0
StoodAll bs places sizes = (a : ℕ) → Stood bs a (places a) (sizes a)

-- what is known of the bursts before
pub record Sound (bs : List Burst) (b : Burst) : Type 0 where
  pub ordered : EachTwo EndsBefore bs
  pub before : Each (λ f. EndsBefore f b) bs
  pub distinct : Each Distinct bs
  pub own : Distinct b
  pub small : IsSmall b
  pub begun : 0 < b.place

-- the burst overlaps one of these
pub record Against (bs : List Burst) (b : Burst) (c : Clash) : Type 0 where
  pub first : Burst
  pub within : Within bs first
  pub overlap : Overlap first b
  pub place : c.place ≡ b.place
  pub other : c.other ≡ first.place
  pub case : c.case ≡ 0

-- the burst is equal to or disjoint from each of these, and entered; or it overlaps one
abbrev pub Met : List Burst → Burst → (ℕ → ℕ) → (ℕ → ℕ) → Option Clash → Type 0
Met bs b places sizes None = Each (λ f. EqualOrDisjoint f b) bs × StoodAll (bs ++ b ∷ []) places sizes
Met bs b places sizes (Some c) = First (Against bs b) (Some c)

-- the least place of these marks' symbols, of those that have one; 0 where none has
abbrev pub Lowest : (ℕ → ℕ) → List Mark → ℕ → Type 0
Lowest places ms low = ((low ≡ 0) × Each (λ m. places m.sym.0 ≡ 0) ms)
    ⊎ ((0 < low) × ((m : Mark) × Within ms m × (places m.sym.0 ≡ low))
    × Each (λ m. (places m.sym.0 ≡ 0) ⊎ (low ≤ places m.sym.0)) ms)

-- the symbol stood first at this place, in a burst of this size
abbrev pub StoodAt : (ℕ → ℕ) → (ℕ → ℕ) → ℕ → ℕ → Mark → Type 0
StoodAt places sizes place size m = (places m.sym.0 ≡ place) × (sizes m.sym.0 ≡ size)

-- a number for each symbol of these marks
abbrev pub Enters : (ℕ → ℕ) → (ℕ → ℕ) → ℕ → List Mark → Type 0
Enters old new n ms = Each (λ m. new m.sym.0 ≡ n) ms × ((a : ℕ) → Each (λ m. m.sym.0 ≢ a) ms → new a ≡ old a)

-- an overlap of two of these
pub record OverlapAmong (bs : List Burst) (c : Clash) : Type 0 where
  pub first : Burst
  pub second : Burst
  pub order : InOrder bs first second
  pub overlap : Overlap first second
  pub place : c.place ≡ second.place
  pub other : c.other ≡ first.place
  pub case : c.case ≡ 0

-- no two of these overlap, and all are entered; or the first overlap was found
abbrev pub KnowsOverlaps : List Burst → (ℕ → ℕ) → (ℕ → ℕ) → Option Clash → Type 0
KnowsOverlaps bs places sizes None = EachTwo EqualOrDisjoint bs × StoodAll bs places sizes
KnowsOverlaps bs places sizes (Some c) = First (OverlapAmong bs) (Some c)
