-- The sixth rule: two input bursts of one process are equal or disjoint as sets.
use Rattle.std.specs.Prelude.{◌≡◌, ◌⊎◌}
use Rattle.cmd_tree.specs.declared.tree.Proc.{Proc}
use Rattle.tree_walk.specs.Bursts.{Burst, bursts}
use Rattle.di_grammar.specs.declared.clash.Clash.{Clash}
use Rattle.di_grammar.specs.Lists.{EachTwo, InOrder}
use Rattle.di_grammar.specs.Bursts.{SameSet, Disjoint, Overlap, inputs}
use Rattle.di_grammar.specs.Grants.{IsGrant}

abbrev pub EqualOrDisjoint : Burst → Burst → Type 0
EqualOrDisjoint b c = SameSet b c ⊎ Disjoint b c

abbrev pub KeepsOverlaps : Proc → Type 0
KeepsOverlaps p = (IsGrant p → ⊥) → EachTwo EqualOrDisjoint (inputs (bursts p))

-- an input burst, against an earlier one that it overlaps
pub record BreaksOverlaps (p : Proc) (c : Clash) : Type 0 where
  pub no_grant : IsGrant p → ⊥
  pub first : Burst
  pub second : Burst
  pub order : InOrder (inputs (bursts p)) first second
  pub overlap : Overlap first second
  pub place : c.place ≡ second.place
  pub other : c.other ≡ first.place
  pub case : c.case ≡ 0
