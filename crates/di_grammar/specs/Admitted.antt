-- The commands that are admitted, and what is told of the others.
use Rattle.std.specs.Prelude.{◌≡◌, ℕ, ◌<◌, List, Option, Some, None}
use Rattle.cmd_tree.specs.declared.tree.Proc.{Proc}
use Rattle.di_grammar.specs.declared.breach.Breach.{Breach}
use Rattle.di_grammar.specs.declared.clash.Clash.{Clash}
use Rattle.di_grammar.specs.declared.answer.Broken.{Broken}
use Rattle.di_grammar.specs.declared.answer.Rule.{Rule}
use Rattle.di_grammar.specs.declared.answer.Rule.TheVariants.{Bursts, Neighbours, Rounds, Choices, Twins, Overlaps, Directions, Granted, Homes}
use Rattle.di_grammar.specs.Lists.{Each}
use Rattle.di_grammar.specs.Spots.{Numbered}
use Rattle.di_grammar.specs.Breaches.{FirstOf}
use Rattle.di_grammar.specs.EvenBursts.{KeepsBursts, BreaksBursts}
use Rattle.di_grammar.specs.Alternation.{KeepsNeighbours, BreaksNeighbours, KeepsRounds, BreaksRounds}
use Rattle.di_grammar.specs.Choices.{KeepsChoices, BreaksChoices}
use Rattle.di_grammar.specs.Twins.{KeepsTwins, BreaksTwins}
use Rattle.di_grammar.specs.Overlaps.{KeepsOverlaps, BreaksOverlaps}
use Rattle.di_grammar.specs.Directions.{KeepsDirections, BreaksDirections}
use Rattle.di_grammar.specs.Granted.{KeepsGranted, BreaksGranted}
use Rattle.di_grammar.specs.Homes.{KeepsHomes, BreaksHomes}

-- all nine rules
pub record Admitted (ps : List Proc) : Type 0 where
  pub bursts : Each KeepsBursts ps
  pub neighbours : Each KeepsNeighbours ps
  pub rounds : Each KeepsRounds ps
  pub choices : Each KeepsChoices ps
  pub twins : Each KeepsTwins ps
  pub overlaps : Each KeepsOverlaps ps
  pub directions : KeepsDirections ps
  pub granted : Each KeepsGranted ps
  pub homes : KeepsHomes ps

-- a place of one process breaks a rule that speaks of single processes
pub record InProcess (Breaks : Proc → Clash → Type 0) (ps : List Proc) (b : Breach) : Type 0 where
  pub process : Proc
  pub numbered : Numbered ps b.process process
  pub breaks : Breaks process (record { place = b.place; case = b.case; other = b.other })
  pub same : b.other_process ≡ b.process

-- a place of the process breaks the rule, which speaks of single processes
abbrev pub BreaksLocally : Rule → Proc → Clash → Type 0
BreaksLocally Bursts p c = BreaksBursts p c
BreaksLocally Neighbours p c = BreaksNeighbours p c
BreaksLocally Rounds p c = BreaksRounds p c
BreaksLocally Choices p c = BreaksChoices p c
BreaksLocally Twins p c = BreaksTwins p c
BreaksLocally Overlaps p c = BreaksOverlaps p c
BreaksLocally Directions p c = ⊥
BreaksLocally Granted p c = BreaksGranted p c
BreaksLocally Homes p c = ⊥

-- a mark of the command breaks the rule: in one process, but for the two rules on the whole command
abbrev pub Breaks : Rule → List Proc → Breach → Type 0
Breaks Bursts ps b = InProcess (BreaksLocally Bursts) ps b
Breaks Neighbours ps b = InProcess (BreaksLocally Neighbours) ps b
Breaks Rounds ps b = InProcess (BreaksLocally Rounds) ps b
Breaks Choices ps b = InProcess (BreaksLocally Choices) ps b
Breaks Twins ps b = InProcess (BreaksLocally Twins) ps b
Breaks Overlaps ps b = InProcess (BreaksLocally Overlaps) ps b
Breaks Directions ps b = BreaksDirections ps b
Breaks Granted ps b = InProcess (BreaksLocally Granted) ps b
Breaks Homes ps b = BreaksHomes ps b

abbrev pub number_of : Rule → ℕ
number_of Bursts = 1
number_of Neighbours = 2
number_of Rounds = 3
number_of Choices = 4
number_of Twins = 5
number_of Overlaps = 6
number_of Directions = 7
number_of Granted = 8
number_of Homes = 9

-- the rule is broken nowhere
abbrev pub Keeps : Rule → List Proc → Type 0
Keeps r ps = (b : Breach) → Breaks r ps b → ⊥

-- the least broken rule, and the first mark that breaks it
pub record IsBroken (ps : List Proc) (a : Broken) : Type 0 where
  pub rule : Rule
  pub case : ℕ
  pub number : a.rule ≡ number_of rule
  pub earlier : (r : Rule) → number_of r < a.rule → Keeps r ps
  pub first : FirstOf (Breaks rule ps) (Some (record { process = a.process; place = a.place; case = case; other_process = a.other_process; other = a.other }))

-- what is to be told: nothing of an admitted command
abbrev pub Answer : List Proc → Option Broken → Type 0
Answer ps None = Admitted ps
Answer ps (Some a) = IsBroken ps a
