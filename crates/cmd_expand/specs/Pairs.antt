-- Renamings: what they make of a symbol, and what is wrong with one.
use Rattle.std.specs.Prelude.{ℕ, ◌+◌, not, nat_eq, nat_lt, List, [], ◌∷◌, map, Option, Some, None, if◌then◌else◌}
use Rattle.cmd_text.specs.declared.file.Rename.{Rename}
use Rattle.cmd_tree.specs.Lists.{is_in}
use Rattle.cmd_expand.specs.declared.pairs.Pair.{Pair}
use Rattle.cmd_expand.specs.Names.{number}

-- a renaming by the numbers of its names
abbrev pub pair_of : List (List ℕ) → Rename → Pair
pair_of names r = record { fresh = number names r.fresh; fresh_at = r.fresh_at; was = number names r.was; was_at = r.was_at }

-- What the symbol a is called after the renaming: all pairs count at once, and of several with one old name the first.
abbrev pub renamed : List Pair → ℕ → ℕ
renamed [] a = a
renamed (p ∷ ps) a = if nat_eq a p.was then p.fresh else renamed ps a

-- how often a stands in the list
abbrev pub count_of : ℕ → List ℕ → ℕ
count_of a [] = 0
count_of a (x ∷ xs) = if nat_eq a x then 1 + count_of a xs else count_of a xs

-- what is wrong with a text that is one of the grammar, and where, or how many there are
pub data Refused : Type 0 where
  UnknownName : ℕ → Refused
  DefinedTwice : ℕ → Refused
  UsedBeforeDefined : ℕ → Refused
  RenamedTwice : ℕ → Refused
  RenameUnknown : ℕ → Refused
  RenameMerges : ℕ → Refused
  TooManySymbols : ℕ → Refused
  TooManyProcs : ℕ → Refused
  TooManyPlaces : ℕ → Refused

-- What is wrong with the pair p of a renaming, behind pairs with these old names: they have its old name; or that is no
-- symbol of the definition; or two symbols would have its new name.
abbrev pub fault_of_pair : List ℕ → List Pair → List ℕ → Pair → Option Refused
fault_of_pair symbols pairs earlier p =
    if is_in p.was earlier then Some (RenamedTwice p.was_at)
    else if not (is_in p.was symbols) then Some (RenameUnknown p.was_at)
    else if nat_lt 1 (count_of p.fresh (map (renamed pairs) symbols)) then Some (RenameMerges p.fresh_at)
    else None

abbrev pub or_later : Option Refused → Option Refused → Option Refused
or_later None later = later
or_later (Some f) later = Some f

abbrev pub first_fault_from : List ℕ → List Pair → List ℕ → List Pair → Option Refused
first_fault_from symbols pairs earlier [] = None
first_fault_from symbols pairs earlier (p ∷ ps) = or_later (fault_of_pair symbols pairs earlier p) (first_fault_from symbols pairs (p.was ∷ earlier) ps)

-- the first thing in the text that is wrong with a renaming of these symbols
abbrev pub first_fault : List ℕ → List Pair → Option Refused
first_fault symbols pairs = first_fault_from symbols pairs [] pairs
