-- What is known while bursts are searched for uneven ones.
use Rattle.std.specs.Prelude.{◌≡◌, ◌≢◌, ◌⊎◌, ℕ, ◌+◌, ◌<◌, ◌≤◌, List, [], ◌∷◌, ◌++◌, Option, length}
use Rattle.cmd_tree.specs.declared.tree.Mark.{Mark}
use Rattle.tree_walk.specs.Bursts.{Burst, dir_of}
use Rattle.di_grammar.specs.declared.clash.Clash.{Clash}
use Rattle.di_grammar.specs.Clashes.{First}
use Rattle.di_grammar.specs.Lists.{Within}
use Rattle.di_grammar.specs.Bursts.{Stands}
use Rattle.di_grammar.specs.EvenBursts.{IsUneven}

-- a clash of one of these bursts
pub record UnevenAmong (bs : List Burst) (c : Clash) : Type 0 where
  pub burst : Burst
  pub within : Within bs burst
  pub uneven : IsUneven burst c

-- a mark with the symbol a stands at place n of the burst
pub record Seen (b : Burst) (a n : ℕ) : Type 0 where
  pub mark : Mark
  pub stands : Stands b n mark
  pub same : mark.sym.0 ≡ a

abbrev pub burst_of : ℕ → List Mark → Burst
burst_of k ms = record { place = k; marks = ms }

-- n is where the symbol a stands first in the burst, or it is before the burst
abbrev pub Tells : Burst → ℕ → ℕ → Type 0
Tells b a n = ((n < b.place) × ((p : ℕ) → Seen b a p → ⊥)) ⊎ (Seen b a n × ((p : ℕ) → Seen b a p → n ≤ p))

-- the same of each symbol
abbrev pub TellsAll : Burst → (ℕ → ℕ) → Type 0
TellsAll b table = (a : ℕ) → Tells b a (table a)

-- the mark, after these of its burst, has the symbol of one of them
pub record RepeatsOne (b : Burst) (m : Mark) (c : Clash) : Type 0 where
  pub seen : Seen b m.sym.0 c.other
  pub place : c.place ≡ b.place + length b.marks
  pub case : c.case ≡ 0

-- the mark, after these of its burst, has not the direction of the first
pub record TurnsHere (b : Burst) (m : Mark) (c : Clash) : Type 0 where
  pub turned : m.dir ≢ dir_of (b.marks ++ m ∷ [])
  pub place : c.place ≡ b.place + length b.marks
  pub other : c.other ≡ b.place
  pub case : c.case ≡ 1

abbrev pub MarkUneven : Burst → Mark → Clash → Type 0
MarkUneven b m c = RepeatsOne b m c ⊎ TurnsHere b m c

-- after some bursts, all before place `end`
pub record KnowsUneven (bs : List Burst) (table : ℕ → ℕ) (found : Option Clash) (end : ℕ) : Type 0 where
  pub before : (a : ℕ) → table a < end
  pub told : First (UnevenAmong bs) found
