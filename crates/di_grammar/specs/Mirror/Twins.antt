-- What the search for twins knows.
use Rattle.std.specs.Prelude.{◌≡◌, ℕ, ◌+◌, ◌<◌, ◌≤◌, List, [], ◌∷◌, ◌++◌, Option, Some, None, ⊤}
use Rattle.cmd_tree.specs.declared.tree.Mark.{Mark}
use Rattle.cmd_tree.specs.View.{seqs_of}
use Rattle.tree_walk.specs.Bursts.{Burst, firsts_among}
use Rattle.tree_walk.specs.Meetings.{Alternative}
use Rattle.di_grammar.specs.declared.clash.Clash.{Clash}
use Rattle.tree_walk.specs.declared.first_bursts.Choice.{Choice}
use Rattle.di_grammar.specs.Bursts.{SameSet}
use Rattle.di_grammar.specs.Choices.{all_firsts}
use Rattle.di_grammar.specs.Clashes.{First}
use Rattle.di_grammar.specs.Lists.{Each, Within, InOrder}
use Rattle.di_grammar.specs.Mirror.Symbols.{SameSymbols, IsEntered}

-- from the place k on the places rise
abbrev pub Climbs : ℕ → List Burst → Type 0
Climbs k [] = ⊤
Climbs k (b ∷ bs) = (k ≤ b.place) × Climbs (b.place + 1) bs

-- a burst and an earlier one have the same symbols
pub record TwinsIn (bs : List Burst) (c : Clash) : Type 0 where
  pub first : Burst
  pub second : Burst
  pub order : InOrder bs first second
  pub same : SameSet first second
  pub place : c.place ≡ second.place
  pub other : c.other ≡ first.place
  pub case : c.case ≡ 0

abbrev pub IsClimbing : List Alternative → Type 0
IsClimbing choice = Climbs 0 (all_firsts choice)

abbrev pub HasTwins : List Alternative → Clash → Type 0
HasTwins choice c = TwinsIn (all_firsts choice) c

abbrev pub burst_at : ℕ → List Mark → Burst
burst_at k ms = record { place = k; marks = ms }

abbrev pub firsts : Choice → List Burst
firsts choice = firsts_among choice.place (seqs_of choice.seqs.now)

-- the burst y, against one of these that has the same symbols and stands before it
pub record Against (bs : List Burst) (y : Burst) (c : Clash) : Type 0 where
  pub first : Burst
  pub within : Within bs first
  pub same : SameSet first y
  pub earlier : first.place < y.place
  pub place : c.place ≡ y.place
  pub other : c.other ≡ first.place
  pub case : c.case ≡ 0

-- one of these that has the symbols stands at place k
pub record EqualAt (ms : List Mark) (bs : List Burst) (k : ℕ) : Type 0 where
  pub burst : Burst
  pub within : Within bs burst
  pub same : SameSymbols burst.marks ms
  pub at : k ≡ burst.place
  pub first : (d : Burst) → Within bs d → SameSymbols d.marks ms → k ≤ d.place

-- the first place of one of these that has the symbols
abbrev pub Nearest : List Mark → List Burst → Option ℕ → Type 0
Nearest ms bs None = (d : Burst) → Within bs d → SameSymbols d.marks ms → ⊥
Nearest ms bs (Some k) = EqualAt ms bs k

-- the symbols of these bursts are entered
abbrev pub AreEntered : (ℕ → ℕ) → List Burst → Type 0
AreEntered entry bs = Each (λ b. Each (IsEntered entry) b.marks) bs

-- the first twins among the bursts so far of all
abbrev pub Told : List Burst → List Burst → Option Clash → Type 0
Told all bs found = (rest : List Burst) → all ≡ bs ++ rest → Climbs 0 all → First (TwinsIn bs) found
