-- The fifth rule: the first bursts of different alternatives of one choice differ as sets.
use Rattle.std.specs.Prelude.{◌≡◌, List}
use Rattle.cmd_tree.specs.declared.tree.Proc.{Proc}
use Rattle.tree_walk.specs.Bursts.{Burst}
use Rattle.tree_walk.specs.Meetings.{Alternative, choices}
use Rattle.di_grammar.specs.declared.clash.Clash.{Clash}
use Rattle.di_grammar.specs.Lists.{Each, EachTwo, Within, InOrder}
use Rattle.di_grammar.specs.Bursts.{SameSet}
use Rattle.di_grammar.specs.Grants.{IsGrant}

-- no first burst of the one equals a first burst of the other
abbrev pub Differ : Alternative → Alternative → Type 0
Differ a b = Each (λ x. Each (λ y. SameSet x y → ⊥) b.firsts) a.firsts

abbrev pub KeepsTwins : Proc → Type 0
KeepsTwins p = (IsGrant p → ⊥) → Each (EachTwo Differ) (choices p)

-- a first burst of an alternative, against an equal one of an earlier alternative
pub record BreaksTwins (p : Proc) (c : Clash) : Type 0 where
  pub no_grant : IsGrant p → ⊥
  pub choice : List Alternative
  pub within : Within (choices p) choice
  pub one : Alternative
  pub other : Alternative
  pub order : InOrder choice one other
  pub first : Burst
  pub second : Burst
  pub begins_one : Within one.firsts first
  pub begins_other : Within other.firsts second
  pub same : SameSet first second
  pub place : c.place ≡ second.place
  pub earlier : c.other ≡ first.place
  pub case : c.case ≡ 0
