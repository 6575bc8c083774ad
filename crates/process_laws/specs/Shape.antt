-- The shape of a fair process: bursts of inputs and bursts of outputs alternate, the environment makes each
-- choice, and the first symbol of an alternative tells which it is.
use Rattle.std.specs.Prelude.{◌≡◌, ℕ, ◌≤◌, Bool, false, not, nat_eq, IsTrue, List, count_by, Option, Some, None, ⊤}
use Rattle.cmd_tree.specs.declared.tree.Mark.{Mark}
use Rattle.cmd_tree.specs.declared.tree.Proc.{Proc}
use Rattle.cmd_tree.specs.Tree.{TItem, TSeq, TSeqs, TBurst, TAlt, Stop, Or, Done, Then}
use Rattle.cmd_tree.specs.Meaning.{symbols}
use Rattle.cmd_tree.specs.Residual.{FirstOf, FirstAmong}
use Rattle.cmd_tree.specs.Lists.{is_in}

-- A direction is true for outputs and false for inputs, and `out` tells that of each symbol.

-- the symbols of the burst differ, and all have the direction d
pub record IsBurst (out : ℕ → Bool) (d : Bool) (ms : List Mark) : Type 0 where
  pub differ : (a : ℕ) → count_by (nat_eq a) (symbols ms) ≤ 1
  pub one_way : (a : ℕ) → IsTrue (is_in a (symbols ms)) → out a ≡ d

-- the tree begins with a burst of direction d, its bursts alternate, and after it comes one of direction e
abbrev mutual
  pub Alternates : (ℕ → Bool) → Bool → TSeq → Bool → Type 0
  Alternates out d Done e = d ≡ e
  Alternates out d (Then i s) e = (m : Bool) × AlternatesIn out d i m × Alternates out m s e

  pub AlternatesIn : (ℕ → Bool) → Bool → TItem → Bool → Type 0
  AlternatesIn out d (TBurst ms) e = IsBurst out d ms × (e ≡ not d)
  AlternatesIn out d (TAlt ss) e = (d ≡ false) × AlternatesAmong out d ss e

  -- each alternative
  pub AlternatesAmong : (ℕ → Bool) → Bool → TSeqs → Bool → Type 0
  AlternatesAmong out d Stop e = ⊤
  AlternatesAmong out d (Or s ss) e = Alternates out d s e × AlternatesAmong out d ss e

-- no burst with which s begins has a symbol of a burst with which an alternative of ss begins
abbrev pub Apart : TSeq → TSeqs → Type 0
Apart s ss = (ms ns : List Mark) (q r : TSeq) → FirstOf s ms q → FirstAmong ss ns r
    → (a : ℕ) → IsTrue (is_in a (symbols ms)) → IsTrue (is_in a (symbols ns)) → ⊥

-- the alternatives of each choice begin with bursts that share no symbol
abbrev mutual
  pub IsApart : TSeq → Type 0
  IsApart Done = ⊤
  IsApart (Then i s) = IsApartIn i × IsApart s

  pub IsApartIn : TItem → Type 0
  IsApartIn (TBurst ms) = ⊤
  IsApartIn (TAlt ss) = AreApart ss

  pub AreApart : TSeqs → Type 0
  AreApart Stop = ⊤
  AreApart (Or s ss) = IsApart s × AreApart ss × Apart s ss

-- the sequence of a lead or a body, which may be missing
abbrev pub sequence_of : Option TSeq → TSeq
sequence_of None = Done
sequence_of (Some s) = s

-- The process begins with the direction `first`. Each turn of its body begins with the direction `turn`,
-- and so does what follows it.
pub record IsFair (out : ℕ → Bool) (p : Proc) : Type 0 where
  pub first : Bool
  pub turn : Bool
  pub lead : Alternates out first (sequence_of p.lead) turn
  pub body : Alternates out turn (sequence_of p.body) turn
  pub lead_apart : IsApart (sequence_of p.lead)
  pub body_apart : IsApart (sequence_of p.body)
