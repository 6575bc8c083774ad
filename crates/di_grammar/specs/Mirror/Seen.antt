-- What is known of the marks that a rule on the whole command has seen.
use Rattle.std.specs.Prelude.{◌≡◌, ℕ, ◌+◌, ◌<◌, List, [], ◌∷◌, ◌++◌, length, Option, None, slice_index_or}
use Rattle.cmd_tree.specs.declared.limits.TheConstants.{MAX_SYMBOLS}
use Rattle.cmd_tree.specs.declared.tree.Proc.{Proc}
use Rattle.tree_walk.specs.Bursts.{Burst}
use Rattle.di_grammar.specs.declared.spots.Spot.{Spot}
use Rattle.di_grammar.specs.declared.breach.Breach.{Breach}
use Rattle.di_grammar.specs.Lists.{Each}
use Rattle.di_grammar.specs.Spots.{spots_from, spots, first_mark}
use Rattle.di_grammar.specs.Breaches.{FirstOf}
use Rattle.di_grammar.specs.Directions.{Turned}

-- the marks of bursts of process q
abbrev pub spots_passed : ℕ → List Burst → List Spot
spots_passed q [] = []
spots_passed q (b ∷ bs) = spots_from q b.place b.marks ++ spots_passed q bs

-- those of some processes, and of bursts of the next one
abbrev pub spots_after : List Proc → List Burst → List Spot
spots_after ps bs = spots ps ++ spots_passed (length ps + 1) bs

-- the symbols are few enough for the tables
abbrev pub InTable : Spot → Type 0
InTable s = s.mark.sym.0 < MAX_SYMBOLS

-- the table has the first mark of each symbol
abbrev pub FirstMarks : List (Option Spot) → List Spot → Type 0
FirstMarks table ss = (a : ℕ) → a < MAX_SYMBOLS → slice_index_or table a None ≡ first_mark a ss

pub record KnowsTurned (table : List (Option Spot)) (found : Option Breach) (ss : List Spot) : Type 0 where
  pub size : length table ≡ MAX_SYMBOLS
  pub first : FirstMarks table ss
  pub turned : FirstOf (Turned ss) found

abbrev pub Knows : List (Option Spot) → Option Breach → List Spot → Type 0
Knows table found ss = Each InTable ss → KnowsTurned table found ss
