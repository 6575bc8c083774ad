-- The processes that grant: pref*[n?;(p1!|..|pk!)] and pref*[p1!;d1?|..|pk!;dk?], with two symbols p or more.
use Rattle.std.specs.Prelude.{◌≡◌, ◌⊎◌, ℕ, ◌+◌, ◌<◌, List, [], ◌∷◌, length}
use Rattle.cmd_tree.specs.declared.tree.Proc.{Proc}
use Rattle.process_laws.specs.GrantForms.{Giving, plain, release, granted_of}

-- a symbol that is granted, and its place in the process
pub record Gift : Type 0 where
  pub place : ℕ
  pub symbol : ℕ

-- these symbols, the first at place k, and then one each `step` places
abbrev pub gifts_from : ℕ → ℕ → List ℕ → List Gift
gifts_from k step [] = []
gifts_from k step (a ∷ rest) = record { place = k; symbol = a } ∷ gifts_from (k + step) step rest

pub record GrantsPlainly (p : Proc) (gs : List Gift) : Type 0 where
  pub asks : ℕ
  pub symbols : List ℕ
  pub many : 1 < length symbols
  pub is : p ≡ plain asks symbols
  pub gives : gs ≡ gifts_from 2 1 symbols

pub record GrantsWithRelease (p : Proc) (gs : List Gift) : Type 0 where
  pub givings : List Giving
  pub many : 1 < length givings
  pub is : p ≡ release givings
  pub gives : gs ≡ gifts_from 1 2 (granted_of givings)

-- the process is a grant, and gives these symbols
abbrev pub Grants : Proc → List Gift → Type 0
Grants p gs = GrantsPlainly p gs ⊎ GrantsWithRelease p gs

abbrev pub IsGrant : Proc → Type 0
IsGrant p = (gs : List Gift) × Grants p gs
