-- What a visitor found in the stops so far.
use Rattle.std.specs.Prelude.{◌≡◌, ◌⊎◌, ℕ, ◌≤◌, max, min, List, [], ◌∷◌, Option, Some, ⊤}
use Rattle.tree_walk.specs.Bursts.{Burst, dir_of}
use Rattle.tree_walk.specs.Meetings.{Neighbours, Alternative}
use Rattle.di_grammar.specs.declared.clash.Clash.{Clash}
use Rattle.di_grammar.specs.Lists.{Within}
use Rattle.di_grammar.specs.Choices.{BeginsWithOutput, EndsApart}

-- one of these breaks a rule there
pub record Among {A : Type 0} (Breaks : A → Clash → Type 0) (xs : List A) (c : Clash) : Type 0 where
  pub one : A
  pub within : Within xs one
  pub breaks : Breaks one c

-- from the place k on the places do not fall
abbrev pub Rises : ℕ → List Burst → Type 0
Rises k [] = ⊤
Rises k (b ∷ bs) = (k ≤ b.place) × Rises b.place bs

abbrev pub IsOrdered : Neighbours → Type 0
IsOrdered n = Rises 0 n.lasts × Rises 0 n.firsts

-- both places are there
pub record Both (first second : Option ℕ) (c : Clash) : Type 0 where
  pub place : first ≡ Some c.place
  pub other : second ≡ Some c.other
  pub case : c.case ≡ 0

-- one of these bursts, against one of the others that has its direction
pub record SameWay (bs cs : List Burst) (c : Clash) : Type 0 where
  pub one : Burst
  pub other : Burst
  pub within_one : Within bs one
  pub within_other : Within cs other
  pub same : dir_of one.marks ≡ dir_of other.marks
  pub at_one : c.place ≡ one.place
  pub at_other : c.other ≡ other.place
  pub case : c.case ≡ 0

-- of neighbours a first burst, against a last burst that has its direction
abbrev pub Meets : Neighbours → Clash → Type 0
Meets n c = SameWay n.firsts n.lasts c

-- the later of an input's place and an output's, against the earlier
pub record Apart (inputs outputs : Option ℕ) (c : Clash) : Type 0 where
  pub input : ℕ
  pub output : ℕ
  pub has_input : inputs ≡ Some input
  pub has_output : outputs ≡ Some output
  pub place : c.place ≡ max input output
  pub other : c.other ≡ min input output
  pub case : c.case ≡ 1

abbrev pub IsBroken : List Alternative → Clash → Type 0
IsBroken choice c = BeginsWithOutput choice c ⊎ EndsApart choice c
