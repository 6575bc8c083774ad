-- What is known of the marks in grants and in other processes.
use Rattle.std.specs.Prelude.{◌≡◌, ◌⊎◌, ℕ, ◌+◌, ◌<◌, Bool, true, false, ◌&&◌, not, nat_eq, is_some, if◌then◌else◌, List, [], ◌∷◌, ◌++◌, length, Option, Some, None, slice_index_or}
use Rattle.cmd_tree.specs.declared.limits.TheConstants.{MAX_SYMBOLS}
use Rattle.cmd_tree.specs.declared.tree.Proc.{Proc}
use Rattle.tree_walk.specs.Bursts.{Burst}
use Rattle.di_grammar.specs.declared.spots.Spot.{Spot}
use Rattle.di_grammar.specs.declared.breach.Breach.{Breach}
use Rattle.di_grammar.specs.Lists.{Each}
use Rattle.di_grammar.specs.Grants.{Gift, Grants}
use Rattle.di_grammar.specs.Spots.{spots_in, first_mark}
use Rattle.di_grammar.specs.Homes.{GrantedElsewhere, Homeless}
use Rattle.di_grammar.specs.Mirror.Found.{found}
use Rattle.di_grammar.specs.Mirror.Seen.{InTable, FirstMarks, spots_passed}

-- the process is found to be a grant
abbrev pub is_found : Proc → Bool
is_found p = is_some (found p.lead p.body)

-- the marks, where both are the same kind
abbrev pub if_same : Bool → Bool → List Spot → List Spot
if_same true true ss = ss
if_same true false ss = []
if_same false true ss = []
if_same false false ss = ss

-- the marks of the grants, or of the others, among processes of which the first has number q
abbrev pub kind_spots : Bool → ℕ → List Proc → List Spot
kind_spots kind q [] = []
kind_spots kind q (p ∷ ps) = if_same kind (is_found p) (spots_in q p) ++ kind_spots kind (q + 1) ps

-- and of bursts of the next one of that kind
abbrev pub kind_after : Bool → List Proc → List Burst → List Spot
kind_after kind ps bs = kind_spots kind 1 ps ++ spots_passed (length ps + 1) bs

-- the mark has the symbol a and stands in another process than q
abbrev pub is_elsewhere : ℕ → ℕ → Spot → Bool
is_elsewhere a q s = nat_eq s.mark.sym.0 a && not (nat_eq s.process q)

-- the first mark that is such a one
abbrev pub first_such : (Spot → Bool) → List Spot → Option Spot
first_such such [] = None
first_such such (s ∷ ss) = if such s then Some s else first_such such ss

-- the first mark of the symbol in another process than q
abbrev pub other_mark : ℕ → ℕ → List Spot → Option Spot
other_mark a q ss = first_such (is_elsewhere a q) ss

-- the first mark of the symbol in another process than that of its first mark
abbrev pub second_after : ℕ → Option Spot → List Spot → Option Spot
second_after a None ss = None
second_after a (Some f) ss = other_mark a f.process ss

abbrev pub second_mark : ℕ → List Spot → Option Spot
second_mark a ss = second_after a (first_mark a ss) ss

-- the table has the second mark of each symbol
abbrev pub SecondMarks : List (Option Spot) → List Spot → Type 0
SecondMarks table ss = (a : ℕ) → a < MAX_SYMBOLS → slice_index_or table a None ≡ second_mark a ss

-- the symbol has a mark
abbrev pub stands_in : ℕ → List Spot → Bool
stands_in a ss = is_some (first_mark a ss)

-- the table says of each symbol whether it has a mark
abbrev pub StandsMarked : List Bool → List Spot → Type 0
StandsMarked table ss = (a : ℕ) → a < MAX_SYMBOLS → slice_index_or table a false ≡ stands_in a ss

pub record KnowsGrants (first second : List (Option Spot)) (ss : List Spot) : Type 0 where
  pub first_size : length first ≡ MAX_SYMBOLS
  pub second_size : length second ≡ MAX_SYMBOLS
  pub firsts : FirstMarks first ss
  pub seconds : SecondMarks second ss

abbrev pub GrantsSeen : List (Option Spot) → List (Option Spot) → List Spot → Type 0
GrantsSeen first second ss = Each InTable ss → KnowsGrants first second ss

pub record KnowsHomes (home : List Bool) (ss : List Spot) : Type 0 where
  pub size : length home ≡ MAX_SYMBOLS
  pub homes : StandsMarked home ss

abbrev pub HomesSeen : List Bool → List Spot → Type 0
HomesSeen home ss = Each InTable ss → KnowsHomes home ss

-- what is known of these processes
pub record KnowsKinds (first second : List (Option Spot)) (home : List Bool) (ps : List Proc) : Type 0 where
  pub grants : GrantsSeen first second (kind_spots true 1 ps)
  pub homes : HomesSeen home (kind_spots false 1 ps)

-- a symbol that process q grants at place k
pub record BreaksAt (ps : List Proc) (q k a : ℕ) (b : Breach) : Type 0 where
  pub process : b.process ≡ q
  pub place : b.place ≡ k
  pub broken : GrantedElsewhere ps a b ⊎ Homeless ps a b

-- one of these gifts of process q
abbrev pub BreaksGifts : List Proc → ℕ → List Gift → Breach → Type 0
BreaksGifts ps q [] b = ⊥
BreaksGifts ps q (g ∷ gs) b = BreaksAt ps q g.place g.symbol b ⊎ BreaksGifts ps q gs b

-- one of what process q grants, if it is a grant
pub record BreaksGrant (ps : List Proc) (q : ℕ) (p : Proc) (b : Breach) : Type 0 where
  pub gifts : List Gift
  pub grants : Grants p gifts
  pub broken : BreaksGifts ps q gifts b

-- one of what these processes grant, of which the first has number q
abbrev pub BreaksAmong : List Proc → ℕ → List Proc → Breach → Type 0
BreaksAmong ps q [] b = ⊥
BreaksAmong ps q (p ∷ rest) b = BreaksGrant ps q p b ⊎ BreaksAmong ps (q + 1) rest b
