-- The fourth rule: each alternative of a choice begins with inputs, and all end with one direction.
use Rattle.std.specs.Prelude.{◌≡◌, ◌≢◌, ◌⊎◌, List, [], ◌∷◌, ◌++◌}
use Rattle.cmd_tree.specs.declared.tree.Dir.{Dir}
use Rattle.cmd_tree.specs.declared.tree.Dir.TheVariants.{Input, Output}
use Rattle.cmd_tree.specs.declared.tree.Proc.{Proc}
use Rattle.tree_walk.specs.Bursts.{Burst, dir_of}
use Rattle.tree_walk.specs.Meetings.{Alternative, choices}
use Rattle.di_grammar.specs.declared.clash.Clash.{Clash}
use Rattle.di_grammar.specs.Lists.{Each, Within}
use Rattle.di_grammar.specs.Grants.{IsGrant}

-- the first bursts, and the last bursts, of all alternatives
abbrev pub all_firsts : List Alternative → List Burst
all_firsts [] = []
all_firsts (a ∷ rest) = a.firsts ++ all_firsts rest

abbrev pub all_lasts : List Alternative → List Burst
all_lasts [] = []
all_lasts (a ∷ rest) = a.lasts ++ all_lasts rest

-- the environment makes the choice, and what comes after it need not know which
pub record IsChoice (choice : List Alternative) : Type 0 where
  pub asks : Each (λ b. dir_of b.marks ≡ Input) (all_firsts choice)
  pub end : Dir
  pub ends : Each (λ b. dir_of b.marks ≡ end) (all_lasts choice)

abbrev pub KeepsChoices : Proc → Type 0
KeepsChoices p = (IsGrant p → ⊥) → Each IsChoice (choices p)

-- a first burst is an output burst
pub record BeginsWithOutput (choice : List Alternative) (c : Clash) : Type 0 where
  pub burst : Burst
  pub within : Within (all_firsts choice) burst
  pub output : dir_of burst.marks ≡ Output
  pub place : c.place ≡ burst.place
  pub other : c.other ≡ burst.place
  pub case : c.case ≡ 0

-- a last burst has not the direction of the choice's first last burst
pub record EndsApart (choice : List Alternative) (c : Clash) : Type 0 where
  pub first : Burst
  pub rest : List Burst
  pub are : all_lasts choice ≡ first ∷ rest
  pub burst : Burst
  pub within : Within rest burst
  pub differ : dir_of burst.marks ≢ dir_of first.marks
  pub place : c.place ≡ burst.place
  pub other : c.other ≡ first.place
  pub case : c.case ≡ 1

pub record BreaksChoices (p : Proc) (c : Clash) : Type 0 where
  pub no_grant : IsGrant p → ⊥
  pub choice : List Alternative
  pub within : Within (choices p) choice
  pub broken : BeginsWithOutput choice c ⊎ EndsApart choice c
