-- The eighth rule: the symbols that a grant gives differ.
use Rattle.std.specs.Prelude.{◌≡◌, ◌≢◌, List}
use Rattle.cmd_tree.specs.declared.tree.Proc.{Proc}
use Rattle.di_grammar.specs.declared.clash.Clash.{Clash}
use Rattle.di_grammar.specs.Lists.{EachTwo, InOrder}
use Rattle.di_grammar.specs.Grants.{Gift, Grants}

abbrev pub KeepsGranted : Proc → Type 0
KeepsGranted p = (gs : List Gift) → Grants p gs → EachTwo (λ g h. g.symbol ≢ h.symbol) gs

-- a granted symbol, against an earlier place where it is granted
pub record BreaksGranted (p : Proc) (c : Clash) : Type 0 where
  pub gifts : List Gift
  pub grants : Grants p gifts
  pub first : Gift
  pub second : Gift
  pub order : InOrder gifts first second
  pub same : first.symbol ≡ second.symbol
  pub place : c.place ≡ second.place
  pub other : c.other ≡ first.place
  pub case : c.case ≡ 0
