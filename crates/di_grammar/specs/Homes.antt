-- The ninth rule: a symbol that a grant gives stands in a process that is no grant, and in no other grant.
use Rattle.std.specs.Prelude.{◌≡◌, ◌≢◌, ◌⊎◌, ℕ, IsTrue, List, Some}
use Rattle.cmd_tree.specs.declared.tree.Proc.{Proc}
use Rattle.cmd_tree.specs.Limits.{marks_of_proc}
use Rattle.cmd_tree.specs.Meaning.{has_symbol}
use Rattle.di_grammar.specs.declared.spots.Spot.{Spot}
use Rattle.di_grammar.specs.declared.breach.Breach.{Breach}
use Rattle.di_grammar.specs.Lists.{Each, Within}
use Rattle.di_grammar.specs.Grants.{Gift, Grants, IsGrant}
use Rattle.di_grammar.specs.Spots.{spots_in, first_mark, Numbered}

-- the symbol stands in a process that is no grant
pub record HasHome (ps : List Proc) (a : ℕ) : Type 0 where
  pub home : Proc
  pub within : Within ps home
  pub no_grant : IsGrant home → ⊥
  pub stands : IsTrue (has_symbol (marks_of_proc home) a)

-- the symbol stands in a grant other than process q
pub record IsElsewhere (ps : List Proc) (q : ℕ) (a : ℕ) : Type 0 where
  pub number : ℕ
  pub grant : Proc
  pub numbered : Numbered ps number grant
  pub other : number ≢ q
  pub grants : IsGrant grant
  pub stands : IsTrue (has_symbol (marks_of_proc grant) a)

abbrev pub KeepsHomes : List Proc → Type 0
KeepsHomes ps = (q : ℕ) (p : Proc) (gs : List Gift) → Numbered ps q p → Grants p gs
    → Each (λ g. HasHome ps g.symbol × (IsElsewhere ps q g.symbol → ⊥)) gs

-- against a mark of the symbol in another grant
pub record GrantedElsewhere (ps : List Proc) (a : ℕ) (b : Breach) : Type 0 where
  pub grant : Proc
  pub numbered : Numbered ps b.other_process grant
  pub other : b.other_process ≢ b.process
  pub grants : IsGrant grant
  pub mark : Spot
  pub within : Within (spots_in b.other_process grant) mark
  pub same : mark.mark.sym.0 ≡ a
  pub place : b.other ≡ mark.place
  pub case : b.case ≡ 0

-- against the same place, where it has no home
pub record Homeless (ps : List Proc) (a : ℕ) (b : Breach) : Type 0 where
  pub no_home : HasHome ps a → ⊥
  pub same_process : b.other_process ≡ b.process
  pub same_place : b.other ≡ b.place
  pub case : b.case ≡ 1

-- the first mark of a granted symbol in its grant
pub record BreaksHomes (ps : List Proc) (b : Breach) : Type 0 where
  pub grant : Proc
  pub numbered : Numbered ps b.process grant
  pub gifts : List Gift
  pub grants : Grants grant gifts
  pub gift : Gift
  pub within : Within gifts gift
  pub mark : Spot
  pub is_first : first_mark gift.symbol (spots_in b.process grant) ≡ Some mark
  pub place : b.place ≡ mark.place
  pub broken : GrantedElsewhere ps gift.symbol b ⊎ Homeless ps gift.symbol b
