-- The first rule: the symbols of a burst differ, and have one direction.
use Rattle.std.specs.Prelude.{◌≡◌, ◌≢◌, ◌⊎◌, ◌<◌}
use Rattle.cmd_tree.specs.declared.tree.Mark.{Mark}
use Rattle.cmd_tree.specs.declared.tree.Proc.{Proc}
use Rattle.tree_walk.specs.Bursts.{Burst, dir_of, bursts}
use Rattle.di_grammar.specs.declared.clash.Clash.{Clash}
use Rattle.di_grammar.specs.Lists.{Each, EachTwo, Within}
use Rattle.di_grammar.specs.Bursts.{Stands}

pub record Even (b : Burst) : Type 0 where
  pub differ : EachTwo (λ m n. m.sym.0 ≢ n.sym.0) b.marks
  pub one_way : Each (λ m. m.dir ≡ dir_of b.marks) b.marks

abbrev pub KeepsBursts : Proc → Type 0
KeepsBursts p = Each Even (bursts p)

-- the symbol at the place stood earlier in the burst
pub record Repeats (b : Burst) (c : Clash) : Type 0 where
  pub first : Mark
  pub second : Mark
  pub there : Stands b c.other first
  pub here : Stands b c.place second
  pub later : c.other < c.place
  pub same : first.sym.0 ≡ second.sym.0
  pub case : c.case ≡ 0

-- the mark at the place has not the direction of the burst's first mark
pub record TurnsWithin (b : Burst) (c : Clash) : Type 0 where
  pub mark : Mark
  pub here : Stands b c.place mark
  pub turned : mark.dir ≢ dir_of b.marks
  pub there : c.other ≡ b.place
  pub case : c.case ≡ 1

abbrev pub IsUneven : Burst → Clash → Type 0
IsUneven b c = Repeats b c ⊎ TurnsWithin b c

-- the places that break it
pub record BreaksBursts (p : Proc) (c : Clash) : Type 0 where
  pub burst : Burst
  pub within : Within (bursts p) burst
  pub uneven : IsUneven burst c
