-- The bursts of a tree with their places, its first bursts and its last bursts. Places are counted by marks.
use Rattle.std.specs.Prelude.{ℕ, ◌+◌, List, [], ◌∷◌, ◌++◌, Option, Some, None}
use Rattle.cmd_tree.specs.declared.tree.Dir.{Dir}
use Rattle.cmd_tree.specs.declared.tree.Dir.TheVariants.{Input}
use Rattle.cmd_tree.specs.declared.tree.Mark.{Mark}
use Rattle.cmd_tree.specs.declared.tree.Proc.{Proc}
use Rattle.cmd_tree.specs.Tree.{TItem, TSeq, TSeqs, TBurst, TAlt, Stop, Or, Done, Then, places_of, places_in}
use Rattle.cmd_tree.specs.Join.{join}

-- a burst, at the place of its first mark
pub record Burst : Type 0 where
  pub place : ℕ
  pub marks : List Mark

-- the direction of a burst is that of its first mark
abbrev pub dir_of : List Mark → Dir
dir_of [] = Input
dir_of (m ∷ ms) = m.dir

-- all bursts of a tree that begins at place k, in text order
abbrev mutual
  pub bursts_of : ℕ → TSeq → List Burst
  bursts_of k Done = []
  bursts_of k (Then i s) = bursts_in k i ++ bursts_of (k + places_in i) s

  pub bursts_in : ℕ → TItem → List Burst
  bursts_in k (TBurst ms) = record { place = k; marks = ms } ∷ []
  bursts_in k (TAlt ss) = bursts_among k ss

  pub bursts_among : ℕ → TSeqs → List Burst
  bursts_among k Stop = []
  bursts_among k (Or s ss) = bursts_of k s ++ bursts_among (k + places_of s) ss

-- the first bursts: of a sequence those of its first item, of a choice those of all its alternatives
abbrev mutual
  pub firsts_of : ℕ → TSeq → List Burst
  firsts_of k Done = []
  firsts_of k (Then i s) = firsts_in k i

  pub firsts_in : ℕ → TItem → List Burst
  firsts_in k (TBurst ms) = record { place = k; marks = ms } ∷ []
  firsts_in k (TAlt ss) = firsts_among k ss

  pub firsts_among : ℕ → TSeqs → List Burst
  firsts_among k Stop = []
  firsts_among k (Or s ss) = firsts_of k s ++ firsts_among (k + places_of s) ss

-- the last bursts: of a sequence those of its last item, of a choice those of all its alternatives
abbrev mutual
  -- of a sequence after an item with the last bursts `before`
  pub lasts_after : List Burst → ℕ → TSeq → List Burst
  lasts_after before k Done = before
  lasts_after before k (Then i s) = lasts_after (lasts_in k i) (k + places_in i) s

  pub lasts_in : ℕ → TItem → List Burst
  lasts_in k (TBurst ms) = record { place = k; marks = ms } ∷ []
  lasts_in k (TAlt ss) = lasts_among k ss

  pub lasts_among : ℕ → TSeqs → List Burst
  lasts_among k Stop = []
  lasts_among k (Or s ss) = lasts_after [] k s ++ lasts_among (k + places_of s) ss

abbrev pub lasts_of : ℕ → TSeq → List Burst
lasts_of k s = lasts_after [] k s

-- a lead or a body, where a missing one is empty
abbrev pub part : Option TSeq → TSeq
part None = Done
part (Some s) = s

-- a process as it stands in the text: its lead, and then its body once
abbrev pub text_of : Proc → TSeq
text_of p = join (part p.lead) (part p.body)

-- the place at which the body begins
abbrev pub body_place : Proc → ℕ
body_place p = 1 + places_of (part p.lead)

-- the bursts of a process
abbrev pub bursts : Proc → List Burst
bursts p = bursts_of 1 (text_of p)
