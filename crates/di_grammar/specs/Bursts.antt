-- Words on bursts that several rules share.
use Rattle.std.specs.Prelude.{◌≡◌, ◌↔◌, ◌+◌, ℕ, IsTrue, List, [], ◌∷◌, ◌++◌, length}
use Rattle.cmd_tree.specs.declared.tree.Dir.{Dir}
use Rattle.cmd_tree.specs.declared.tree.Dir.TheVariants.{Input, Output}
use Rattle.cmd_tree.specs.declared.tree.Mark.{Mark}
use Rattle.cmd_tree.specs.Lists.{is_in}
use Rattle.cmd_tree.specs.Meaning.{symbols}
use Rattle.tree_walk.specs.Bursts.{Burst, dir_of}

-- the symbol a stands in the burst
abbrev pub Has : Burst → ℕ → Type 0
Has b a = IsTrue (is_in a (symbols b.marks))

-- both bursts have the same symbols
abbrev pub SameSet : Burst → Burst → Type 0
SameSet b c = (a : ℕ) → Has b a ↔ Has c a

-- no symbol stands in both
abbrev pub Disjoint : Burst → Burst → Type 0
Disjoint b c = (a : ℕ) → Has b a → Has c a → ⊥

-- a symbol stands in both, and they are not the same set
pub record Overlap (b c : Burst) : Type 0 where
  pub symbol : ℕ
  pub first : Has b symbol
  pub second : Has c symbol
  pub differ : SameSet b c → ⊥

-- the mark stands in the burst at this place
pub record Stands (b : Burst) (place : ℕ) (m : Mark) : Type 0 where
  pub before : List Mark
  pub after : List Mark
  pub are : b.marks ≡ before ++ m ∷ after
  pub at : place ≡ b.place + length before

-- the input bursts among some bursts
abbrev pub if_input : Dir → Burst → List Burst → List Burst
if_input Input b bs = b ∷ bs
if_input Output b bs = bs

abbrev pub inputs : List Burst → List Burst
inputs [] = []
inputs (b ∷ bs) = if_input (dir_of b.marks) b (inputs bs)
