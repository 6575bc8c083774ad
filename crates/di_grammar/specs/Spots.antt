-- The marks of a command with their places.
use Rattle.std.specs.Prelude.{◌≡◌, ℕ, ◌+◌, nat_eq, if◌then◌else◌, List, [], ◌∷◌, ◌++◌, length, Option, Some, None}
use Rattle.cmd_tree.specs.declared.tree.Mark.{Mark}
use Rattle.cmd_tree.specs.declared.tree.Proc.{Proc}
use Rattle.cmd_tree.specs.Limits.{marks_of_proc}
use Rattle.di_grammar.specs.declared.spots.Spot.{Spot}

-- marks of process q, of which the first stands at place k
abbrev pub spots_from : ℕ → ℕ → List Mark → List Spot
spots_from q k [] = []
spots_from q k (m ∷ ms) = record { process = q; place = k; mark = m } ∷ spots_from q (k + 1) ms

-- the marks of p, which has number q
abbrev pub spots_in : ℕ → Proc → List Spot
spots_in q p = spots_from q 1 (marks_of_proc p)

-- the marks of processes, of which the first has number q
abbrev pub spots_of : ℕ → List Proc → List Spot
spots_of q [] = []
spots_of q (p ∷ ps) = spots_in q p ++ spots_of (q + 1) ps

-- all marks of a command
abbrev pub spots : List Proc → List Spot
spots ps = spots_of 1 ps

-- the first mark of the symbol a
abbrev pub first_mark : ℕ → List Spot → Option Spot
first_mark a [] = None
first_mark a (s ∷ ss) = if nat_eq s.mark.sym.0 a then Some s else first_mark a ss

-- p is the process of number q
pub record Numbered (ps : List Proc) (q : ℕ) (p : Proc) : Type 0 where
  pub before : List Proc
  pub after : List Proc
  pub are : ps ≡ before ++ p ∷ after
  pub number : q ≡ length before + 1
