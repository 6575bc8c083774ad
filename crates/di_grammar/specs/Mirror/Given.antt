-- What is known while the symbols of a grant are searched for one that is given twice.
use Rattle.std.specs.Prelude.{◌≡◌, ◌≢◌, ◌⊎◌, ℕ, ◌+◌, ◌*◌, ◌<◌, List}
use Rattle.cmd_tree.specs.Tree.{TSeq}
use Rattle.cmd_tree.specs.View.{seqs_of}
use Rattle.di_grammar.specs.declared.clash.Clash.{Clash}
use Rattle.di_grammar.specs.declared.grants.Form.{Form}
use Rattle.di_grammar.specs.declared.grants.Form.TheVariants.{Plain, Release}
use Rattle.di_grammar.specs.Lists.{EachTwo, Within, InOrder}
use Rattle.di_grammar.specs.Grants.{Gift}
use Rattle.di_grammar.specs.Mirror.Found.{gifts_of}

-- the place of the symbol that the alternative with this index gives
abbrev pub gift_place : Form → ℕ → ℕ
gift_place Plain i = 2 + i
gift_place Release i = 1 + 2 * i

-- what these alternatives give
abbrev pub gifts_in : Form → List TSeq → List Gift
gifts_in form xs = gifts_of form (seqs_of xs)

abbrev pub Differ : List Gift → Type 0
Differ gs = EachTwo (λ g h. g.symbol ≢ h.symbol) gs

-- a symbol that is given again
pub record GivenTwice (gs : List Gift) (c : Clash) : Type 0 where
  pub first : Gift
  pub second : Gift
  pub order : InOrder gs first second
  pub same : first.symbol ≡ second.symbol
  pub place : c.place ≡ second.place
  pub other : c.other ≡ first.place
  pub case : c.case ≡ 0

-- a is given at the place n
pub record GivenAt (gs : List Gift) (a n : ℕ) : Type 0 where
  pub gift : Gift
  pub within : Within gs gift
  pub same : gift.symbol ≡ a
  pub at : n ≡ gift.place

-- where a is given; 0 where it is not
abbrev pub Gave : List Gift → ℕ → ℕ → Type 0
Gave gs a n = ((n ≡ 0) × ((g : Gift) → Within gs g → g.symbol ≡ a → ⊥)) ⊎ ((0 < n) × GivenAt gs a n)

abbrev pub GaveAll : List Gift → (ℕ → ℕ) → Type 0
GaveAll gs table = (a : ℕ) → Gave gs a (table a)
