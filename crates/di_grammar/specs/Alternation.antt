-- The second and the third rule: where one burst comes after another, their directions differ.
use Rattle.std.specs.Prelude.{◌≡◌, ◌≢◌, ℕ}
use Rattle.cmd_tree.specs.declared.tree.Proc.{Proc}
use Rattle.tree_walk.specs.Bursts.{Burst, dir_of}
use Rattle.tree_walk.specs.Meetings.{Neighbours, neighbours, turn}
use Rattle.di_grammar.specs.declared.clash.Clash.{Clash}
use Rattle.di_grammar.specs.Lists.{Each, Within}

-- no last burst of the one has the direction of a first burst of the other
abbrev pub Alternate : Neighbours → Type 0
Alternate n = Each (λ x. Each (λ y. dir_of x.marks ≢ dir_of y.marks) n.firsts) n.lasts

-- a last burst and a first burst with one direction
pub record OneWay (n : Neighbours) (last first : ℕ) : Type 0 where
  pub one : Burst
  pub other : Burst
  pub ends : Within n.lasts one
  pub begins : Within n.firsts other
  pub same : dir_of one.marks ≡ dir_of other.marks
  pub last_place : last ≡ one.place
  pub first_place : first ≡ other.place

-- Neighbours in a sequence alternate, lead and body among them.
abbrev pub KeepsNeighbours : Proc → Type 0
KeepsNeighbours p = Each Alternate (neighbours p)

-- a first burst of the second neighbour, against a last burst of the first
pub record BreaksNeighbours (p : Proc) (c : Clash) : Type 0 where
  pub meeting : Neighbours
  pub within : Within (neighbours p) meeting
  pub one_way : OneWay meeting c.other c.place
  pub case : c.case ≡ 0

-- One turn of the body and the next alternate.
abbrev pub KeepsRounds : Proc → Type 0
KeepsRounds p = Alternate (turn p)

-- a last burst of the body, against a first burst of the body
pub record BreaksRounds (p : Proc) (c : Clash) : Type 0 where
  pub one_way : OneWay (turn p) c.place c.other
  pub case : c.case ≡ 0
